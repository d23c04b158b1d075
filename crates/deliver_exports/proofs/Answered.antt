-- What deliver answers is within the range of specs/Ranges.antt, and so is the refusal of a run.
use Prim.Native.Nat.{ℕ, zero, suc, ◌≤◌}
use native.Mathlib.Omega.{arith}
use mathlib.Core.Path.{◌≡◌, refl}
use mathlib.Core.Bool.{Bool, true, false, cond}
use lib.Dec.{eqb}
use borrow.Author.Tests.{eqb-true}
use Rattle.std.specs.Prelude.{Option, Some, None, Ok, Err}
use Rattle.refusal.specs.Numbers.{named}
use Rattle.words.specs.Words.{first_in}
use Rattle.words.specs.declared.Found.{Found}
use Rattle.network.specs.Network.{Network, stacks}
use Rattle.table.specs.Table.{Table, node_at, destination_at, number_at, offers_taken, delivered}
use Rattle.table.specs.Answers.{message_refusal_in, refusal, ok_message, waits, ok_sender, message_refusal, deliver_refusal, deliver_answer}
use Rattle.table.specs.Run.{RunOutcome, one_more, ends, turn, steps, run_of}
use Rattle.table.proofs.Begins.{rows_few}
use Rattle.table.proofs.Refusals.{refusal_few, ready_then}
use Rattle.deliver_exports.specs.Ranges.{DeliveredFits}
use Rattle.table.proofs.Deliveries.{offers_most}

-- ---- a delivery: refusals 4, 5 and 7 besides
module _ (net : Network) (t : Table) (Q U D N : ℕ) where
  step_few : message_refusal net t Q U D N ≤ 7
  unfolding message_refusal_in
  step_few = go (ok_message net t Q U D N) (waits net t Q U D N) (ok_sender net t Q U D N)
    where
      go : (a b c : Bool) → cond a (cond b (cond c 0 7) 5) 4 ≤ 7
      go true true true = omega arith
      go true true false = omega arith
      go true false c = omega arith
      go false b c = omega arith

  deliver_few : (deliver_refusal net t Q U D N ≤ 7) × (deliver_refusal net t Q U D N ≡ 0 → refusal net t ≡ 0)
  unfolding deliver_refusal
  deliver_few = go (eqb (refusal net t) 0) refl
    where
      go : (b : Bool) → eqb (refusal net t) 0 ≡ b → (cond b (message_refusal net t Q U D N) (refusal net t) ≤ 7)
          × (cond b (message_refusal net t Q U D N) (refusal net t) ≡ 0 → refusal net t ≡ 0)
      go true e = (step_few, λ d. eqb-true (refusal net t) 0 e)
      go false e = (omega (arith, refusal_few net t), λ d. d)

  pub deliver_fits : DeliveredFits (deliver_answer net t Q U D N)
  deliver_fits = go (eqb (deliver_refusal net t Q U D N) 0) refl
    where
      go : (b : Bool) → eqb (deliver_refusal net t Q U D N) 0 ≡ b → DeliveredFits (cond b (Ok (offers_taken net t Q U D N))
          (Err (named (deliver_refusal net t Q U D N))))
      go true e =
          let r = ready_then net t (deliver_few.1 (eqb-true (deliver_refusal net t Q U D N) 0 e)) in
          omega (arith, offers_most net t Q U D N, (rows_few net t (stacks net) r).1)
      go false e = tt

-- ---- how a run ends
module _ (net : Network) where
  turn_few : (rest : Table → RunOutcome) → ((t : Table) → (rest t).refused ≤ 7) → (t : Table) (f : Option Found) → (turn net rest t f).refused ≤ 7
  turn_few rest less t None = omega arith
  turn_few rest less t (Some f) =
      go (node_at net f.word) f.bit (destination_at net f.word) (number_at net f.word) (eqb (message_refusal net t (node_at net f.word) f.bit
      (destination_at net f.word) (number_at net f.word)) 0)
    where
      go : (Q U D N : ℕ) (b : Bool) → (cond b (one_more (offers_taken net t Q U D N) (rest (delivered net t Q U D N)))
          (ends (message_refusal net t Q U D N) t)).refused ≤ 7
      go Q U D N true = less (delivered net t Q U D N)
      go Q U D N false = step_few net t Q U D N

  steps_few : (k : ℕ) (t : Table) → (steps net k t).refused ≤ 7
  steps_few zero t = omega arith
  steps_few (suc k) t = turn_few (steps net k) (steps_few k) t (first_in t.waiting)

  pub run_few : (k : ℕ) (t : Table) → (run_of net k t).refused ≤ 7
  unfolding run_of
  run_few k t = go (eqb (refusal net t) 0)
    where
      go : (b : Bool) → (cond b (steps net k t) (ends (refusal net t) t)).refused ≤ 7
      go true = steps_few k t
      go false = omega (arith, refusal_few net t)
