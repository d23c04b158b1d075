-- What the crate's public functions answer: these are the contracts. (Those that answer a number cite specs/Network.antt itself.)
use Rattle.std.specs.Prelude.{ℕ, cond, eqb, Result, Ok, Err}
use Rattle.network.specs.Network.{Network, stacks, refusal_of}
use Rattle.refusal.specs.declared.Refusal.{Refusal}
use Rattle.refusal.specs.Numbers.{refusal_number, answered}

-- check: how many stacks a network has, or its refusal
abbrev pub checked_of : Network → Result ℕ Refusal
checked_of net = answered (refusal_of net) (stacks net)

-- "A refusal returns its number and zeros": of check's answer the refusal number, 0 where nothing is refused, and the stacks that go with it
abbrev pub checked_refusal : Result ℕ Refusal → ℕ
checked_refusal (Ok s) = 0
checked_refusal (Err r) = refusal_number r

abbrev pub checked_stacks : Result ℕ Refusal → ℕ
checked_stacks (Ok s) = s
checked_stacks (Err r) = 0
