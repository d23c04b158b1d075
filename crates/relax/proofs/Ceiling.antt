-- Every reachable cost is `no_row` or at most `ceiling_of g`. What is kept: v's cost and `dearest` are at most `dearest` for each vertex that costs no more
-- than v.
-- (A vertex u that takes an offer from x costs more than all that count for x, so it counts as one more.)
use Prim.Native.Nat.{ℕ, suc, ◌+◌, ◌-◌, ◌*◌, ◌≤◌, ◌<◌, zero-le}
use mathlib.Core.Path.{refl, ◌∙◌}
use mathlib.Core.Logic.{◌≢◌, by_cases}
use mathlib.Core.Bool.{false}
use native.Mathlib.Omega.{arith}
use native.Mathlib.Nat.{le_refl, mul-le-mul_right}
use native.Mathlib.Decide.{ℕ_discrete}
use lib.Dec.{leb}
use borrow.Author.Tests.{leb-true, le-leb, lt-leb}
use Rattle.lists.proofs.Tests.{bool_cases}
use Rattle.relax.specs.Graph.{Graph, Lawful, State, no_row, ceiling_of, Fresh, Takes, Deliver, Reach}
use Rattle.lists.specs.Lists.{one}
use Rattle.relax.specs.Journeys.{sum}
use Rattle.relax.proofs.Sum.{sum_le, sum_lt, sum_most, bit_one, bit_le, bit_lt}
use Rattle.relax.proofs.Laws.{takes_below, takes?, always}
use Rattle.relax.proofs.Sound.{cost_falls}

-- how many of the vertices below size cost at most c
within : ℕ → State → ℕ → ℕ
within size s c = sum size (λ i. one (leb (s.cost i) c))

-- more of them count as costs fall, or as c rises
within_at : (a b c e : ℕ) → b ≤ a → c ≤ e → one (leb a c) ≤ one (leb b e)
within_at a b c e fall h = bit_le (leb a c) (leb b e) (λ p. le-leb b e (omega (arith, leb-true a c p)))

within_le : (size : ℕ) (s t : State) (c e : ℕ) → ((i : ℕ) → t.cost i ≤ s.cost i) → c ≤ e → within size s c ≤ within size t e
unfolding within
within_le size s t c e fall h = sum_le size _ _ (λ i. within_at (s.cost i) (t.cost i) c e (fall i) h)

-- and strictly more, if some vertex u did not count before and does now
within_lt : (size : ℕ) (s t : State) (c e u : ℕ) → ((i : ℕ) → t.cost i ≤ s.cost i) → c ≤ e → u < size → c < s.cost u → t.cost u ≤ e
    → within size s c < within size t e
unfolding within
within_lt size s t c e u fall h below out inside = sum_lt size _ _
    (λ i. within_at (s.cost i) (t.cost i) c e (fall i) h)
    u below (bit_lt (leb (s.cost u) c) (leb (t.cost u) e) (lt-leb (s.cost u) c out) (le-leb (t.cost u) e inside))

within_most : (size : ℕ) (s : State) (c : ℕ) → within size s c ≤ size
unfolding within
within_most size s c = omega (arith, sum_most size 1 _ (λ i. bit_one (leb (s.cost i) c)))

within_one : (size : ℕ) (s : State) (c v : ℕ) → v < size → s.cost v ≤ c → 0 < within size s c
unfolding within
within_one size s c v below h =
    let counts : 0 < one (leb (s.cost v) c) = bit_lt false (leb (s.cost v) c) refl (le-leb (s.cost v) c h) in
    omega (arith, sum_lt size (λ i. 0) (λ i. one (leb (s.cost i) c)) (λ i. zero-le) v below counts)

module _ (g : Graph) (ok : Lawful g) where
  open g use {size, dearest, weight, home}

  -- the invariant
  Bounded : State → Type 0
  Bounded s = (v : ℕ) → s.cost v ≢ no_row → s.cost v + dearest ≤ within size s (s.cost v) * dearest

  bounded_ceiling : (s : State) → Bounded s → (v : ℕ) → s.cost v ≢ no_row → s.cost v ≤ ceiling_of g
  unfolding Bounded
  bounded_ceiling s p v n =
      let near : within size s (s.cost v) * dearest ≤ size * dearest = mul-le-mul_right dearest (within_most size s (s.cost v)) in
      let all : size * dearest ≤ suc (size - 1) * dearest = mul-le-mul_right dearest (omega arith) in
      omega (arith, p v n)

  bounded_no_row : (s : State) → Bounded s → (v : ℕ) → s.cost v ≤ no_row
  bounded_no_row s p v = by_cases (ℕ_discrete (s.cost v) no_row) (λ e. omega arith) (λ n. omega (arith, bounded_ceiling s p v n, ok.room))

  bounded_fresh : (s : State) → Fresh g s → Bounded s
  unfolding Bounded
  bounded_fresh s f v n = bool_cases (home v)
      (λ h. omega (arith, f.home_cost v h, mul-le-mul_right dearest (within_one size s (s.cost v) v (ok.home_below v h) (le_refl _))))
      (λ h. absurd (n (f.away_cost v h)))

  module _ {s t : State} {x U : ℕ} (d : Deliver g s t x U) (p : Bounded s) (v : ℕ) where
    -- what v takes is x's cost and a hop, and v counts besides all that count for x
    bounded_took : Takes g s x U v → t.cost v + dearest ≤ within size t (t.cost v) * dearest
    unfolding Bounded
    bounded_took k =
        let cost = d.take_cost v k in
        let old : s.cost x + dearest ≤ within size s (s.cost x) * dearest = p x (λ e. omega (arith, takes_below g k, bounded_no_row s p v)) in
        let one : suc (within size s (s.cost x)) ≤ within size t (t.cost v) =
        within_lt size s t _ _ v (cost_falls g d) (omega arith) (ok.hop_from v x k.hop) (omega (arith, takes_below g k)) (le_refl _) in
        omega (arith, old, mul-le-mul_right dearest one, ok.hop_most v x k.hop)

    bounded_kept : ¬ Takes g s x U v → t.cost v ≢ no_row → t.cost v + dearest ≤ within size t (t.cost v) * dearest
    unfolding Bounded
    bounded_kept k n =
        let cost = d.keep_cost v k in
        let more : within size s (s.cost v) ≤ within size t (t.cost v) = within_le size s t _ _ (cost_falls g d) (omega arith) in
        omega (arith, p v (λ e. n (cost ∙ e)), mul-le-mul_right dearest more)

  bounded_deliver : (s t : State) (x U : ℕ) → Reach g s → Bounded s → Deliver g s t x U → Bounded t
  unfolding Bounded
  bounded_deliver s t x U r p d v n = by_cases (takes? g s x U v) (bounded_took d p v) (λ k. bounded_kept d p v k n)

  bounded : {s : State} → Reach g s → Bounded s
  bounded = always g Bounded bounded_fresh bounded_deliver

  -- 2. every reachable cost is `no_row` or at most `ceiling_of g`
  pub ceiling : {s : State} → Reach g s → (v : ℕ) → s.cost v ≢ no_row → s.cost v ≤ ceiling_of g
  ceiling {s} r v n = bounded_ceiling s (bounded r) v n

  -- so no cost is above `no_row`
  pub below_no_row : {s : State} → Reach g s → (v : ℕ) → s.cost v ≤ no_row
  below_no_row {s} r v = bounded_no_row s (bounded r) v

  -- and no offer reaches it, so that code can add the two numbers and never takes a known cost for `no_row`
  pub offer_fits : {s : State} → Reach g s → (x u : ℕ) → s.cost x ≢ no_row → 0 < weight u x → s.cost x + weight u x < no_row
  offer_fits r x u n hop = omega (arith, ceiling r x n, ok.hop_most u x hop, ok.room)
