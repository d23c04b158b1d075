-- How a lookup's answer stands in one 64-bit number for a C caller, and how it is read back.
use Rattle.std.specs.Prelude.{ℕ, ◌+◌, ◌*◌, ◌^◌, cond, eqb, Result, Ok, Err}
use Rattle.refusal.specs.declared.Refusal.{Refusal}
use Rattle.refusal.specs.Numbers.{refusal_number, named}
use Rattle.forward.specs.Forward.{forward}
use Rattle.forward.specs.declared.Look.{Look}
use Rattle.packing.specs.Packing.{pack_refused, is_refused, refusal_in, is_found, sender_in, receiver_in, low_in, number_in}

-- "the bit below the top one": a lookup says forward
abbrev pub pack_forward : ℕ → ℕ → ℕ → ℕ → ℕ
pack_forward next function number cost = 2 ^ 62 + next * 2 ^ 56 + function * 2 ^ 48 + number * 2 ^ 32 + cost

abbrev pub pack_look : Result Look Refusal → ℕ
pack_look (Ok Look.Delivered) = 0
pack_look (Ok (Look.Forward hop)) = pack_forward hop.next hop.function hop.number hop.cost
pack_look (Err refusal) = pack_refused (refusal_number refusal)

unfoldable pub unpack_look : ℕ → Result Look Refusal
unpack_look x =
    cond (eqb (is_refused x) 0) (cond (eqb (is_found x) 0) (Ok Look.Delivered) (forward (sender_in x) (receiver_in x) (number_in x) (low_in x)))
    (Err (named (refusal_in x)))
