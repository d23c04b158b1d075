-- Rows without a way, in a table that can come to be: a row that is none, and one where packets are delivered, which no offer replaces.
use Prim.Native.Nat.{ℕ, ◌≤◌, ◌<◌}
use native.Mathlib.Decide.{ℕ_discrete}
use native.Mathlib.Omega.{arith}
use mathlib.Core.Path.{◌≡◌, sym, ap, ◌∙◌, subst}
use mathlib.Core.Logic.{by_cases}
use mathlib.Core.List.{[], ◌∷◌}
use mathlib.Core.Bool.{true, false, ◌&&◌}
use lib.ListN.{get_or}
use lib.Dec.{ltb, eqb}
use borrow.Author.Tests.{ltb-true}
use Rattle.lists.proofs.Tests.{bool_cases, both}
use Rattle.lists.proofs.Tables.{get_or_tabulate}
use Rattle.relax.specs.Graph.{wins}
use Rattle.stacks.specs.Stacks.{number}
use Rattle.network.specs.Network.{Network, stacks}
use Rattle.gateways.specs.Gateways.{accepts}
use Rattle.gateways.proofs.Laws.{accepts_below}
use Rattle.table.specs.Table.{Table, Sized, no_row, no_way, rows_all, place, home, fresh, delivered}
use Rattle.table.specs.Answers.{message_refusal}
use Rattle.table.proofs.Rows.{Stack, place_below}
use Rattle.table.proofs.Deliveries.{goes, took, leader_of, offer_to, changes, stays, Stays, kept_row}
use Rattle.table.proofs.Refusals.{delivery_cases}
use Rattle.bridge.proofs.Beginning.{fresh_cost, fresh_waiting}
use Rattle.promise.specs.Routes.{Network16, Reached, begun, delivery}
use Rattle.promise.proofs.Reaching.{sized}
use Rattle.promise.proofs.Onward.{cost_most}
use Rattle.promise.proofs.Looking.{numbered}
use Rattle.promise.proofs.Homes.{one_ok, one_home}

-- an offer that a row takes is below its cost
took_less : (net : Network) (t : Table) (Q U D N E M : ℕ) → took net t Q U D N E M ≡ true → offer_to net t Q U D N M < get_or t.cost (place net U E M) 0
unfolding took wins
took_less net t Q U D N E M e =
    let offer = offer_to net t Q U D N M in
    let old = get_or t.cost (place net U E M) 0 in
    let a = both (eqb E D) (ltb (leader_of net t Q U D N M) 192 && ltb offer old) e in
    ltb-true offer old (both (ltb (leader_of net t Q U D N M) 192) (ltb offer old) a.1).1

-- ---- what the row of node W, destination E and stack number M holds
module _ (net : Network) (W E M : ℕ) (w : W < net.n) (e : E < net.n) (m : Stack net M) where
  pub record Holds (t : Table) : Type 0 where
    pub none : get_or t.cost (place net W E M) 0 ≡ no_row → (get_or t.way (place net W E M) 0 ≡ no_way) × (get_or t.waiting (place net W E M) 0 ≡ 0)
    pub own : home net W E M ≡ true → (get_or t.cost (place net W E M) 0 ≡ 0) × (get_or t.way (place net W E M) 0 ≡ no_way)

  fresh_way : get_or (fresh net).way (place net W E M) 0 ≡ no_way
  unfolding fresh
  fresh_way = get_or_tabulate (rows_all net) (λ i. no_way) (place net W E M) 0 (place_below net W E M w e m)

  fresh_holds : Holds (fresh net)
  fresh_holds = record {
    none = λ z. (
      fresh_way,
      bool_cases (home net W E M)
          (λ h. absurd (let c : ◌≡◌ {A = ℕ} 0 no_row = sym (simp h at (fresh_cost net W E M e m w)) ∙ z in omega arith))
          (λ h. fresh_waiting net W E M e m w ∙ simp h),
    );
    own = λ h. (fresh_cost net W E M e m w ∙ simp h, fresh_way);
  }

  -- ---- after a delivery
  module _ (t : Table) (Q U D N : ℕ) (s : Sized net t) (r : message_refusal net t Q U D N ≡ 0) (most : get_or t.cost (place net W E M) 0 ≤ no_row)
      (old : Holds t) where
    -- the row takes an offer: it is not the destination's own, and has a cost now
    taken : W ≡ U → took net t Q U D N E M ≡ true → Holds (delivered net t Q U D N)
    taken q yes_took =
        let offer = offer_to net t Q U D N M in
        let cost : get_or (delivered net t Q U D N).cost (place net W E M) 0 ≡ offer =
        ap (λ (X : ℕ). get_or (delivered net t Q U D N).cost (place net X E M) 0) q
        ∙ (changes net t Q U D N s (goes net t Q U D N r).receiver E M e m yes_took).cost in
        let less : offer < get_or t.cost (place net W E M) 0 =
        subst (λ (X : ℕ). offer < get_or t.cost (place net X E M) 0) (sym q) (took_less net t Q U D N E M yes_took) in
        record { none = λ z. absurd (omega (arith, z)); own = λ h. absurd (omega (arith, (old.own h).0)) }

    -- it takes none: only its message may be gone
    kept : (W ≡ U → took net t Q U D N E M ≡ false) → Holds (delivered net t Q U D N)
    kept not_took =
        let g = goes net t Q U D N r in
        let k : Stays net t Q U D N s g.receiver E M e m W = stays net t Q U D N s g.receiver E M e m W not_took in
        record {
          none = λ z. let n = old.none (sym k.cost ∙ z) in (
            k.way ∙ n.0,
            k.waiting ∙ kept_row net t Q U D N s (place net W E M)
                (λ same. let priced = g.priced in
                let c : get_or t.cost (place net Q D N) 0 ≡ no_row = ap (λ (i : ℕ). get_or t.cost i 0) (sym same) ∙ sym k.cost ∙ z in
                omega arith) ∙ n.1,
          );
          own = λ h. let o = old.own h in (k.cost ∙ o.0, k.way ∙ o.1);
        }

    holds : Holds (delivered net t Q U D N)
    holds = by_cases (ℕ_discrete W U)
        (λ q. bool_cases (took net t Q U D N E M) (taken q) (λ n. kept (λ same. n)))
        (λ other. kept (λ q. absurd (other q)))

-- ---- so in every table that can come to be
module _ (net : Network) (ok : Network16 net) where
  module _ (W E M : ℕ) (w : W < net.n) (e : E < net.n) (m : Stack net M) where
    -- a cost is no_row or at most the ceiling
    cost_low : {t : Table} → Reached net t → get_or t.cost (place net W E M) 0 ≤ no_row
    cost_low {t} r = by_cases (ℕ_discrete (get_or t.cost (place net W E M) 0) no_row)
        (λ z. omega arith)
        (λ priced. omega (arith, cost_most net ok t r W E M priced w e m))

    row_holds : {t : Table} → Reached net t → Holds net W E M w e m t
    row_holds begun = fresh_holds net W E M w e m
    row_holds (delivery {t = t} Q U D N r) =
        delivery_cases net t Q U D N (Holds net W E M w e m) (λ z. holds net W E M w e m t Q U D N (sized net r) z (cost_low r) (row_holds r)) (row_holds r)

  pub no_way_lem : (t : Table) (U D N : ℕ) → Reached net t → get_or t.cost (place net U D N) 0 ≡ no_row → U < net.n → D < net.n → 1 ≤ N → N ≤ stacks net
      → (get_or t.way (place net U D N) 0 ≡ no_way) × (get_or t.waiting (place net U D N) 0 ≡ 0)
  no_way_lem t U D N r none u d some most = (row_holds U D N u d (record { some = some; most = most }) r).none none

  pub home_kept : (t : Table) (D x : ℕ) → Reached net t → accepts net D x ≡ true
      → (get_or t.cost (place net D D (number net.p (x ∷ []))) 0 ≡ 0) × (get_or t.way (place net D D (number net.p (x ∷ []))) 0 ≡ no_way)
  home_kept t D x r a =
      let low = accepts_below net D x a in
      (row_holds D D (number net.p (x ∷ [])) low.0 low.0 (numbered net ok (x ∷ []) (one_ok net ok x low.1)) r).own (one_home net ok D x a)
