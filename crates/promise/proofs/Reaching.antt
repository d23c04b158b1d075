-- A table that can come to be is, for each destination, a state that can come to be in the theory; and no call refuses it.
use Prim.Native.Nat.{ℕ, ◌<◌}
use native.Mathlib.Decide.{ℕ_discrete}
use mathlib.Core.Path.{◌≡◌, subst}
use mathlib.Core.Logic.{by_cases}
use lib.ListN.{length}
use borrow.Author.Tests.{eq-eqb}
use Rattle.relax.specs.Graph.{Step, deliver, stutter, Reach, fresh, more}
use Rattle.relax.specs.Graph as relax
use Rattle.network.specs.Network.{Network, refusal_of}
use Rattle.table.specs.Table.{Table, Sized, rows_all, vertex, delivered}
use Rattle.table.specs.Answers.{ok_lengths, refusal_by, refusal, fresh_table, message_refusal}
use Rattle.bridge.specs.Bridge.{graph_of, state_of, Bridged}
use Rattle.bridge.proofs.Beginning.{fresh_sized}
use Rattle.bridge.proofs.Theorems.{bridged}
use Rattle.table.proofs.Deliveries.{goes, delivered_sized}
use Rattle.table.proofs.Refusals.{delivery_cases}
use Rattle.promise.specs.Routes.{Network16, Reached, Later, begun, now, delivery}

-- ---- the slices keep their lengths, so that no call refuses the table
module _ (net : Network) where
  pub sized : {t : Table} → Reached net t → Sized net t
  sized begun = fresh_sized net
  sized (delivery {t = t} Q U E N r) =
      delivery_cases net t Q U E N (Sized net) (λ e. delivered_sized net t Q U E N (sized r) (goes net t Q U E N e).receiver) (sized r)

  pub sized_later : {t u : Table} → Sized net t → Later net t u → Sized net u
  sized_later s now = s
  sized_later s (delivery {u = u} Q U E N l) =
      let r = sized_later s l in
      delivery_cases net u Q U E N (Sized net) (λ e. delivered_sized net u Q U E N r (goes net u Q U E N e).receiver) r

  pub sized_refusal : {t : Table} → refusal_of net ≡ 0 → Sized net t → refusal net t ≡ 0
  unfolding refusal refusal_by ok_lengths
  sized_refusal {t} right s =
      simp (
        eq-eqb (refusal_of net) 0 right,
        eq-eqb (length t.cost) (rows_all net) s.costs,
        eq-eqb (length t.way) (rows_all net) s.ways,
        eq-eqb (length t.waiting) (rows_all net) s.waits,
      )

  -- what comes after a table that can come to be can come to be
  pub reached_later : {t u : Table} → Reached net t → Later net t u → Reached net u
  reached_later r now = r
  reached_later r (delivery Q U E N l) = delivery Q U E N (reached_later r l)

-- ---- the theory, for the destination D
-- what the call fresh leaves
pub begins : (net : Network) (t : Table) → refusal net t ≡ 0 → Reached net (fresh_table net t)
unfolding fresh_table
begins net t e = rw (eq-eqb (refusal net t) 0 e) begun

module _ (net : Network) (ok : Network16 net) where
  pub reached_refusal : {t : Table} → Reached net t → refusal net t ≡ 0
  reached_refusal r = sized_refusal net ok.valid (sized net r)

  module _ (D : ℕ) (d : D < net.n) where
    pub bridge : Bridged net D
    bridge = bridged net ok.valid ok.numbers D d

    -- a delivery that goes through is a step: a delivery if it is about D, and else nothing changes
    pub steps : (t : Table) (Q U E N : ℕ) → Sized net t → message_refusal net t Q U E N ≡ 0 → Step (graph_of net D) (state_of net D t)
        (state_of net D (delivered net t Q U E N))
    steps t Q U E N s e = by_cases (ℕ_discrete D E)
        (λ q. subst (λ (E : ℕ). message_refusal net t Q U E N ≡ 0 → Step (graph_of net D) (state_of net D t) (state_of net D (delivered net t Q U E N))) q
        (λ z. deliver (vertex net Q N) U (bridge.delivery_is_a_step t Q U N s z)) e)
        (λ n. stutter (bridge.delivery_elsewhere t Q U E N s e n))

    pub reached : {t : Table} → Reached net t → Reach (graph_of net D) (state_of net D t)
    reached begun = fresh bridge.fresh_is_fresh
    reached (delivery {t = t} Q U E N r) =
        delivery_cases net t Q U E N (λ (u : Table). Reach (graph_of net D) (state_of net D u)) (λ e. more (reached r) (steps t Q U E N (sized net r) e))
        (reached r)

    pub later : {t u : Table} → Sized net t → Later net t u → relax.Later (graph_of net D) (state_of net D t) (state_of net D u)
    later s now = relax.now
    later {t} s (delivery {u = u} Q U E N l) =
        delivery_cases net u Q U E N (λ (z : Table). relax.Later (graph_of net D) (state_of net D t) (state_of net D z))
        (λ e. relax.after (later s l) (steps u Q U E N (sized_later net s l) e)) (later s l)
