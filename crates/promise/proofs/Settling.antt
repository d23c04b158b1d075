-- Deliveries end, and a run that is long enough leaves no message waiting: every delivery lowers the theory's measure for its destination and leaves the
-- others'.
use Prim.Native.Nat.{ℕ, zero, suc, ◌+◌, ◌*◌, ◌≤◌, ◌<◌}
use native.Mathlib.Decide.{ℕ_discrete, dec_lt}
use native.Mathlib.Nat.{le_of_lt}
use native.Mathlib.Omega.{arith}
use mathlib.Core.Path.{◌≡◌, refl, sym, ap, ◌∙◌, subst}
use mathlib.Core.Logic.{by_cases}
use mathlib.Core.Bool.{cond}
use lib.Dec.{ltb}
use borrow.Author.Tests.{eq-eqb, lt-ltb, le-ltb}
use Rattle.std.specs.Prelude.{Option, Some, None}
use Rattle.relax.specs.Journeys.{sum, measure, bound}
use Rattle.relax.proofs.Sum.{sum_lt, sum_most}
use Rattle.relax.proofs.Laws.{same_path}
use Rattle.relax.proofs.Ends.{measure_falls, fresh_measure}
use Rattle.words.specs.Words.{first_in}
use Rattle.words.specs.declared.Found.{Found}
use Rattle.network.specs.Network.{Network}
use Rattle.table.specs.Table.{Table, rows_each, node_at, destination_at, number_at, fresh, delivered}
use Rattle.table.specs.Answers.{refusal, message_refusal, deliver_refusal}
use Rattle.table.specs.Run.{RunOutcome, turn, steps, run_of}
use Rattle.table.proofs.Deliveries.{goes}
use Rattle.bridge.specs.Bridge.{graph_of, state_of}
use Rattle.promise.specs.Routes.{Network16, Reached, Done, begun, delivery, most_deliveries, Quiet}
use Rattle.promise.proofs.Reaching.{sized, bridge, reached, reached_refusal}
use Rattle.promise.proofs.Fitting.{nowhere_quiet}
use Rattle.promise.proofs.Running.{through, made, run_steps, found_goes}

module _ (net : Network) where
  -- the measure for a destination, 0 for a number that is no node, and the measure for all destinations
  measure_for : Table → ℕ → ℕ
  measure_for t D = cond (ltb D net.n) (measure (rows_each net) net.n (state_of net D t)) 0

  total : Table → ℕ
  total t = sum net.n (measure_for t)

  for_node : (t : Table) (D : ℕ) → D < net.n → measure_for t D ≡ measure (rows_each net) net.n (state_of net D t)
  unfolding measure_for
  for_node t D d = simp (lt-ltb D net.n d)

  for_none : (t : Table) (D : ℕ) → net.n ≤ D → measure_for t D ≡ 0
  unfolding measure_for
  for_none t D d = simp (le-ltb D net.n d)

  module _ (ok : Network16 net) where
    -- no measure is above the bound
    total_most : {t : Table} → Reached net t → total t ≤ net.n * bound (rows_each net) net.n
    unfolding total
    total_most {t} r = sum_most net.n (bound (rows_each net) net.n) (measure_for t) (λ D. by_cases (dec_lt D net.n)
        (λ d. let b = bridge net ok D d in
        omega (arith, for_node t D d, fresh_measure (graph_of net D) b.lawful net.n b.neighbours_few (reached net ok D d r)))
        (λ d. omega (arith, for_none t D (omega arith))))

    -- ---- a delivery about E
    module _ {t : Table} (r : Reached net t) (Q U E N : ℕ) (e : message_refusal net t Q U E N ≡ 0) where
      abbrev next : Table
      next = delivered net t Q U E N

      falls : measure_for next E < measure_for t E
      falls =
          let d = (goes net t Q U E N e).destination in
          let b = bridge net ok E d in
          omega (
            arith,
            for_node t E d,
            for_node next E d,
            measure_falls (graph_of net E) b.lawful net.n b.neighbours_few (reached net ok E d r) (b.delivery_is_a_step t Q U N (sized net r) e),
          )

      stays : (D : ℕ) → (D ≡ E → ⊥) → measure_for next D ≡ measure_for t D
      stays D other = by_cases (dec_lt D net.n)
          (λ d. for_node next D d
          ∙ ap (measure (rows_each net) net.n) (sym (same_path ((bridge net ok D d).delivery_elsewhere t Q U E N (sized net r) e other)))
          ∙ sym (for_node t D d))
          (λ d. omega (arith, for_none next D (omega arith), for_none t D (omega arith)))

      none_rises : (D : ℕ) → measure_for next D ≤ measure_for t D
      none_rises D = by_cases (ℕ_discrete D E)
          (λ q. subst (λ (X : ℕ). measure_for next X ≤ measure_for t X) (sym q) (le_of_lt falls))
          (λ other. omega (arith, stays D other))

      total_falls : total next < total t
      unfolding total
      total_falls = sum_lt net.n (measure_for next) (measure_for t) none_rises E (goes net t Q U E N e).destination falls

    -- ---- a turn ends the run quiet, or leaves less to do
    turn_settles : (rest : Table → RunOutcome) (k : ℕ) → ((u : Table) → Reached net u → total u < k → Quiet net (rest u).table)
        → (t : Table) → Reached net t → total t < suc k → (f : Option Found) → first_in t.waiting ≡ f → Quiet net (turn net rest t f).table
    turn_settles rest k on t r h None e = nowhere_quiet t.waiting e
    turn_settles rest k on t r h (Some f) e =
        let z = found_goes net ok t r f.word f.bit e in
        rw (eq-eqb (message_refusal net t (node_at net f.word) f.bit (destination_at net f.word) (number_at net f.word)) 0 z)
        (on _ (made net ok t (node_at net f.word) f.bit (destination_at net f.word) (number_at net f.word) r z)
        (omega (arith, total_falls r (node_at net f.word) f.bit (destination_at net f.word) (number_at net f.word) z)))

    steps_settle : (k : ℕ) (t : Table) → Reached net t → total t < k → Quiet net (steps net k t).table
    steps_settle zero t r h = absurd (omega arith)
    steps_settle (suc k) t r h = turn_settles (steps net k) k (λ u q l. steps_settle k u q l) t r h (first_in t.waiting) refl

    pub settles : (t : Table) (k : ℕ) → Reached net t → most_deliveries net < k → Quiet net (run_of net k t).table
    settles t k r h = subst (λ (o : RunOutcome). Quiet net o.table) (sym (run_steps net ok t k r)) (steps_settle k t r (omega (arith, total_most r)))

    -- ---- deliveries in any order: each has lowered the measure
    done_reached : {k : ℕ} {t : Table} → Done net k t → Reached net t
    done_reached begun = begun
    done_reached (delivery Q U D N d e) = delivery Q U D N (done_reached d)

    step_goes : {t : Table} → Reached net t → (Q U D N : ℕ) → deliver_refusal net t Q U D N ≡ 0 → message_refusal net t Q U D N ≡ 0
    unfolding deliver_refusal
    step_goes {t} r Q U D N e = let same : deliver_refusal net t Q U D N ≡ message_refusal net t Q U D N = simp
        (eq-eqb (refusal net t) 0 (reached_refusal net ok r)) in sym same ∙ e

    paid : {k : ℕ} {t : Table} → Done net k t → k + total t ≤ total (fresh net)
    paid begun = omega arith
    paid (delivery {k} {t} Q U D N d e) =
        let r = done_reached d in
        let z = step_goes r Q U D N e in
        subst (λ (u : Table). suc k + total u ≤ total (fresh net)) (sym (through net ok t Q U D N r z)) (omega (arith, paid d, total_falls r Q U D N z))

    pub ends : (k : ℕ) (t : Table) → Done net k t → k ≤ most_deliveries net
    ends k t d = omega (arith, paid d, total_most begun)
