-- Runs from a table that can come to be: none is refused, one that stops before its limit leaves no message waiting, and runs in a row are one run.
-- A call's limit has 32 bits, and what `settles` asks for is more: so `rounds_settle` says it of several calls.
use Prim.Native.Nat.{ℕ, zero, suc, ◌+◌, ◌<◌}
use native.Mathlib.Omega.{arith}
use mathlib.Core.Path.{◌≡◌, refl, sym, ap, ◌∙◌, subst}
use mathlib.Core.List.{List, [], ◌∷◌}
use borrow.Author.Tests.{eq-eqb}
use Rattle.std.specs.Prelude.{Option, Some, None}
use Rattle.words.specs.Words.{first_in}
use Rattle.words.specs.declared.Found.{Found}
use Rattle.network.specs.Network.{Network}
use Rattle.table.specs.Table.{Table, node_at, destination_at, number_at}
use Rattle.table.specs.Answers.{message_refusal}
use Rattle.table.specs.Run.{RunOutcome, turn, steps, run_of}
use Rattle.promise.specs.Routes.{Network16, Reached, most_deliveries, together, rounds, Quiet}
use Rattle.promise.proofs.Fitting.{nowhere_quiet}
use Rattle.promise.proofs.Running.{made, run_steps, run_reached, found_goes}
use Rattle.promise.proofs.Settling.{settles}

module _ (net : Network) (ok : Network16 net) where
  -- what is said of the outcome of a run with the limit k
  Ended : ℕ → RunOutcome → Type 0
  Ended k o = (o.refused ≡ 0) × (o.done < k → Quiet net o.table)

  turn_ended : (rest : Table → RunOutcome) (k : ℕ) → ((u : Table) → Reached net u → Ended k (rest u))
      → (t : Table) → Reached net t → (f : Option Found) → first_in t.waiting ≡ f → Ended (suc k) (turn net rest t f)
  unfolding Ended
  turn_ended rest k on t r None e = (refl, λ h. nowhere_quiet t.waiting e)
  turn_ended rest k on t r (Some f) e =
      let z = found_goes net ok t r f.word f.bit e in
      let o = on _ (made net ok t (node_at net f.word) f.bit (destination_at net f.word) (number_at net f.word) r z) in
      rw (eq-eqb (message_refusal net t (node_at net f.word) f.bit (destination_at net f.word) (number_at net f.word)) 0 z) (o.0, λ h. o.1 (omega arith))

  steps_ended : (k : ℕ) (t : Table) → Reached net t → Ended k (steps net k t)
  unfolding Ended
  steps_ended zero t r = (refl, λ h. absurd (omega arith))
  steps_ended (suc k) t r = turn_ended (steps net k) k (λ u q. steps_ended k u q) t r (first_in t.waiting) refl

  pub run_unrefused : (t : Table) (k : ℕ) → Reached net t → (run_of net k t).refused ≡ 0
  unfolding Ended
  run_unrefused t k r = ap (λ (o : RunOutcome). o.refused) (run_steps net ok t k r) ∙ (steps_ended k t r).0

  pub run_stops : (t : Table) (k : ℕ) → Reached net t → (run_of net k t).done < k → Quiet net (run_of net k t).table
  unfolding Ended
  run_stops t k r = subst (λ (o : RunOutcome). o.done < k → Quiet net o.table) (sym (run_steps net ok t k r)) (steps_ended k t r).1

  -- ---- a run that goes on where another stopped
  idle : (k : ℕ) (t : Table) → first_in t.waiting ≡ None → (steps net k t).table ≡ t
  idle zero t e = refl
  idle (suc k) t e = ap (λ (f : Option Found). (turn net (steps net k) t f).table) e

  turn_again : (a b : ℕ) → ((u : Table) → Reached net u → (steps net b (steps net a u).table).table ≡ (steps net (a + b) u).table)
      → (t : Table) → Reached net t → (f : Option Found) → first_in t.waiting ≡ f
      → (steps net b (turn net (steps net a) t f).table).table ≡ (turn net (steps net (a + b)) t f).table
  turn_again a b on t r None e = idle b t e
  turn_again a b on t r (Some f) e =
      let z = found_goes net ok t r f.word f.bit e in
      rw (eq-eqb (message_refusal net t (node_at net f.word) f.bit (destination_at net f.word) (number_at net f.word)) 0 z)
      (on _ (made net ok t (node_at net f.word) f.bit (destination_at net f.word) (number_at net f.word) r z))

  steps_again : (a b : ℕ) (t : Table) → Reached net t → (steps net b (steps net a t).table).table ≡ (steps net (a + b) t).table
  steps_again zero b t r = let e : b ≡ 0 + b = omega arith in ap (λ (k : ℕ). (steps net k t).table) e
  steps_again (suc a) b t r =
      let e : suc (a + b) ≡ suc a + b = omega arith in
      turn_again a b (λ u q. steps_again a b u q) t r (first_in t.waiting) refl ∙ ap (λ (k : ℕ). (steps net k t).table) e

  pub run_again : (t : Table) (a b : ℕ) → Reached net t → (run_of net b (run_of net a t).table).table ≡ (run_of net (a + b) t).table
  run_again t a b r =
      ap (λ (o : RunOutcome). o.table) (run_steps net ok (run_of net a t).table b (run_reached net ok t a r))
      ∙ ap (λ (o : RunOutcome). (steps net b o.table).table) (run_steps net ok t a r)
      ∙ steps_again a b t r
      ∙ sym (ap (λ (o : RunOutcome). o.table) (run_steps net ok t (a + b) r))

  -- ---- calls in a row
  rounds_are : (limits : List ℕ) (t : Table) → Reached net t → rounds net limits t ≡ (run_of net (together limits) t).table
  rounds_are [] t r = sym (ap (λ (o : RunOutcome). o.table) (run_steps net ok t 0 r))
  rounds_are (k ∷ limits) t r = rounds_are limits (run_of net k t).table (run_reached net ok t k r) ∙ run_again t k (together limits) r

  pub rounds_settle : (t : Table) (limits : List ℕ) → Reached net t → most_deliveries net < together limits → Quiet net (rounds net limits t)
  rounds_settle t limits r h = subst (Quiet net) (sym (rounds_are limits t r)) (settles net ok t (together limits) r h)
