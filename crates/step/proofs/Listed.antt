-- Each refusal of a step has a name of its own, so that the number of the name is the one that the definition gives.
use Prim.Native.Nat.{ℕ}
use mathlib.Core.Path.{refl}
use lib.ListN.{length}
use Rattle.refusal.proofs.Named.{ListedOrNone, none_listed, unless_listed}
use Rattle.table.specs.Table.{Table}
use Rattle.table.specs.Answers.{ok_message_in, waits_in, ok_sender_in, message_refusal_in}
use Rattle.step.specs.Step.{ok_rows, refusal_in}

pub refusal_listed : (n p s back : ℕ) (t : Table) (Q U D N : ℕ) → ListedOrNone (refusal_in n p s back t Q U D N)
unfolding refusal_in message_refusal_in
refusal_listed n p s back t Q U D N =
    unless_listed (ok_rows n p s (length t.cost) (length t.way) (length t.waiting)) 3 _ refl (unless_listed (ok_message_in n s Q U D N) 4 _ refl
    (unless_listed (waits_in n s t Q U D N) 5 _ refl (unless_listed (ok_sender_in n s back t Q D N) 7 0 refl none_listed)))
