-- The laws of the model: what the two tests tell, that `Takes` is decided, and the induction by which every invariant is shown.
-- No other file opens `wins` or `cleared`: whoever changes a test has these laws to prove again, and nothing else.
use Prim.Native.Nat.{ℕ, ◌+◌, ◌≤◌, ◌<◌}
use mathlib.Core.Path.{◌≡◌, refl, sym, ◌∙◌, subst}
use mathlib.Core.Bool.{true, false, true≢false}
use native.Mathlib.Omega.{arith}
use native.Mathlib.Decide.{ℕ_discrete, dec_lt}
use lib.Dec.{eqb}
use borrow.Author.Tests.{ltb-true, ltb-false, leb-true, leb-false, eqb-true, eq-eqb}
use Rattle.lists.proofs.Tests.{bool_cases, both, and_true}
use Rattle.relax.specs.Graph.{Graph, State, wins, cleared, Same, Fresh, Takes, Deliver, deliver, stutter, Reach, fresh, more, Later, now, after}
use Rattle.relax.specs.Journeys.{Run, rest, one, idle}

-- ---- the two tests
-- an offer that wins is strictly below
pub wins_below : (offer cost : ℕ) → wins offer cost ≡ true → offer < cost
unfolding wins
wins_below offer cost e = omega (arith, leb-true, ltb-true)

-- and one that loses is not
pub loses_above : (offer cost : ℕ) → wins offer cost ≡ false → cost ≤ offer
unfolding wins
loses_above offer cost e = omega (arith, leb-false, ltb-false)

-- so whatever is strictly below wins
pub below_wins : (offer cost : ℕ) → offer < cost → wins offer cost ≡ true
below_wins offer cost h = bool_cases (wins offer cost) (λ e. e) (λ e. absurd (omega (arith, loses_above offer cost e)))

-- whatever is cleared is the delivered message
pub cleared_only : (x U v Q : ℕ) → cleared x U v Q ≡ true → (v ≡ x) × (Q ≡ U)
unfolding cleared
cleared_only x U v Q e =
    let first = (both (eqb v x) _ e).0 in
    let second = (both (eqb v x) _ e).1 in
    (omega (arith, eqb-true, ltb-true), omega (arith, eqb-true, ltb-true))

-- and that is cleared
pub cleared_here : (x U : ℕ) → cleared x U x U ≡ true
unfolding cleared
cleared_here x U = and_true _ _ (eq-eqb x x refl) (eq-eqb U U refl)

-- ---- states
-- states that agree at every place are equal, so that a stutter keeps whatever holds
pub same_path : {s t : State} → Same s t → s ≡ t
same_path e = λ i. record { cost = λ v. e.same_cost v i; next = λ v. e.same_next v i; waiting = λ v U. e.same_waiting v U i }

module _ (g : Graph) where
  open g use {weight, node}

  -- an offer that is taken is strictly below the row's cost
  pub takes_below : {s : State} {x U u : ℕ} → Takes g s x U u → s.cost x + weight u x < s.cost u
  takes_below {s} {x} {u = u} k = wins_below (s.cost x + weight u x) (s.cost u) k.better

  -- a vertex takes no offer about itself
  pub takes_other : {s : State} {x U : ℕ} → ¬ Takes g s x U x
  takes_other k = omega (arith, takes_below k)

  -- whether an offer is taken can be decided: every proof about a delivery is by these cases
  pub takes? : (s : State) (x U u : ℕ) → Dec (Takes g s x U u)
  takes? s x U u = bool_cases (wins (s.cost x + weight u x) (s.cost u))
      (λ c. go (ℕ_discrete (node u) U) (dec_lt 0 (weight u x)) c)
      (λ c. no (λ k. true≢false (sym k.better ∙ c)))
    where
      go : Dec (node u ≡ U) → Dec (0 < weight u x) → wins (s.cost x + weight u x) (s.cost u) ≡ true → Dec (Takes g s x U u)
      go (yes a) (yes b) c = yes (record { mine = a; hop = b; better = c })
      go (yes a) (no b) c = no (λ k. b k.hop)
      go (no a) b c = no (λ k. a k.mine)

  -- once it is delivered, the message waits no more
  pub heard_here : {s t : State} {x U : ℕ} → Deliver g s t x U → t.waiting x U ≡ false
  heard_here {x = x} {U = U} d = d.heard x U takes_other (cleared_here x U)

  -- what comes after a reachable state is reachable
  pub reach_later : {s t : State} → Reach g s → Later g s t → Reach g t
  reach_later r now = r
  reach_later r (after l k) = more (reach_later r l) k

  pub run_reach : {s t : State} {n : ℕ} → Reach g s → Run g s t n → Reach g t
  run_reach r rest = r
  run_reach r (one x U p d) = more (run_reach r p) (deliver x U d)
  run_reach r (idle p e) = more (run_reach r p) (stutter e)

  -- what holds at the start, and that each delivery keeps, holds in every reachable state
  pub always : (P : State → Type 0) → ((s : State) → Fresh g s → P s)
      → ((s t : State) (x U : ℕ) → Reach g s → P s → Deliver g s t x U → P t) → {s : State} → Reach g s → P s
  always P base keep (fresh {s = s} f) = base s f
  always P base keep (more {s = s} {t = t} r (deliver x U d)) = keep s t x U r (always P base keep r) d
  always P base keep (more {s = s} {t = t} r (stutter e)) = subst P (same_path e) (always P base keep r)
