-- How far `heard` has come once the first i candidates have made their offers: none, all, and a turn that changes nothing.
use Prim.Native.Nat.{ℕ, ◌+◌, ◌-◌, ◌*◌, ◌/◌, ◌%◌, ◌≤◌, ◌<◌}
use native.Mathlib.Nat.{div-add-mod', suc-mul}
use native.Mathlib.Numerals.{add-one}
use native.Mathlib.Decide.{dec_lt}
use native.Mathlib.Omega.{arith}
use mathlib.Core.Path.{◌≡◌, refl, sym, ap, ◌∙◌, subst}
use mathlib.Core.Logic.{by_cases}
use mathlib.Core.List.{List}
use mathlib.Core.Bool.{Bool, true, false, cond, ◌&&◌, and-false}
use lib.Arith.{digits_div, digits_mod}
use lib.ListN.{length, get_or}
use lib.Dec.{ltb, eqb}
use borrow.Author.Tests.{ltb-true, eqb-true, lt-ltb, le-ltb}
use Rattle.lists.specs.Lists.{tabulate, how_many}
use Rattle.lists.proofs.Tests.{bool_cases, both}
use Rattle.lists.proofs.Tables.{length_tabulate, tabulate_get_d, tabulate_same}
use Rattle.lists.proofs.Counts.{how_many_same, how_many_none}
use Rattle.relax.specs.Graph.{wins}
use Rattle.functions.specs.Functions.{kind_of, from_of, to_of}
use Rattle.bits.specs.Bits.{with_all}
use Rattle.hear.specs.Hearing.{Gateway, Message, Rows, leader, leader_at, offer, takes, cost_at, way_at, waiting_at, heard, taken}
use Rattle.hear.specs.Steps.{place_of}
use Rattle.hear.proofs.Sources.{led}
use Rattle.hear.proofs.Leaders.{leader_found}
use Rattle.hear.proofs.Candidates.{turn_of_function, turn_low}

module _ (g : Gateway) (m : Message) where
  -- as `takes`, where only the first i candidates have made their offers
  unfoldable pub takes_below : ℕ → List ℕ → ℕ → Bool
  takes_below i costs j = takes g m costs j && ltb (turn_of_function g.p (leader_at g m j)) i

  unfoldable pub cost_below : ℕ → Rows → ℕ → ℕ
  cost_below i r j = cond (takes_below i r.costs j) (offer g m (leader_at g m j)) (get_or r.costs j 0)

  unfoldable pub way_below : ℕ → Rows → ℕ → ℕ
  way_below i r j = cond (takes_below i r.costs j) (256 * m.sender + leader_at g m j) (get_or r.ways j 0)

  unfoldable pub waiting_below : ℕ → Rows → ℕ → ℕ
  waiting_below i r j = cond (takes_below i r.costs j) (with_all (get_or r.waiting j 0) g.neighbours) (get_or r.waiting j 0)

  unfoldable pub rows_below : ℕ → Rows → Rows
  rows_below i r = record {
    costs = tabulate (length r.costs) (cost_below i r);
    ways = tabulate (length r.costs) (way_below i r);
    waiting = tabulate (length r.costs) (waiting_below i r);
  }

  unfoldable pub taken_below : ℕ → Rows → ℕ
  taken_below i r = how_many (length r.costs) (takes_below i r.costs)

  -- the first i candidates turn the rows `before` into the rows `after`, and `count` of them take an offer
  pub record Came (i count : ℕ) (before after : Rows) : Type 0 where
    pub rows : after ≡ rows_below i before
    pub counts : count ≡ taken_below i before

-- ---- where a row stands
pub place_div : (most d n : ℕ) → 1 ≤ n → n ≤ most → place_of most d n / most ≡ d
place_div most d n some low = digits_div d (omega arith)

pub place_mod : (most d n : ℕ) → 1 ≤ n → n ≤ most → place_of most d n % most + 1 ≡ n
place_mod most d n some low = let e : (d * most + (n - 1)) % most ≡ n - 1 = digits_mod d (omega arith) in omega arith

pub place_within : (most d n long : ℕ) → 1 ≤ n → n ≤ most → (d + 1) * most ≤ long → place_of most d n < long
place_within most d n long some low wide =
    omega (arith, ap (λ (x : ℕ). x * most) (add-one d), suc-mul d most)

pub place_only : (most d n i : ℕ) → i / most ≡ d → i % most + 1 ≡ n → i ≡ place_of most d n
place_only most d n i q e = omega (arith, div-add-mod' i most, ap (λ (x : ℕ). x * most) q)

-- three lists make equal rows
pub rows_eq : (r : Rows) (a b c : List ℕ) → r.costs ≡ a → r.ways ≡ b → r.waiting ≡ c → ◌≡◌ {A = Rows} r (record { costs = a; ways = b; waiting = c })
rows_eq r a b c e f h = subst (λ (x : List ℕ). ◌≡◌ {A = Rows} r (record { costs = x; ways = b; waiting = c })) e
    (subst (λ (x : List ℕ). ◌≡◌ {A = Rows} r (record { costs = r.costs; ways = x; waiting = c })) f
    (subst (λ (x : List ℕ). ◌≡◌ {A = Rows} r (record { costs = r.costs; ways = r.ways; waiting = x })) h refl))

-- what a row that takes an offer says
pub record Takes (g : Gateway) (m : Message) (costs : List ℕ) (j : ℕ) : Type 0 where
  pub there : j / g.most ≡ m.destination
  pub led : leader_at g m j < 192
  pub less : offer g m (leader_at g m j) < get_or costs j 0

module _ (g : Gateway) (m : Message) where
  pub takes_says : (costs : List ℕ) (j : ℕ) → takes g m costs j ≡ true → Takes g m costs j
  unfolding takes wins
  takes_says costs j e =
      let d = both (eqb (j / g.most) m.destination) (ltb (leader_at g m j) 192 && ltb (offer g m (leader_at g m j)) (get_or costs j 0)) e in
      let q = both (ltb (leader_at g m j) 192) (ltb (offer g m (leader_at g m j)) (get_or costs j 0)) d.1 in
      record {
        there = eqb-true (j / g.most) m.destination d.0;
        led = ltb-true (leader_at g m j) 192 q.0;
        less = ltb-true (offer g m (leader_at g m j)) (get_or costs j 0) q.1;
      }

  -- ---- no candidate and every candidate
  takes_none : (costs : List ℕ) (j : ℕ) → takes_below g m 0 costs j ≡ false
  unfolding takes_below
  takes_none costs j = simp (le-ltb (turn_of_function g.p (leader_at g m j)) 0 (omega arith), and-false)

  pub rows_none : (r : Rows) → length r.ways ≡ length r.costs → length r.waiting ≡ length r.costs → r ≡ rows_below g m 0 r
  unfolding rows_below cost_below way_below waiting_below
  rows_none r ways waiting =
      rows_eq r (rows_below g m 0 r).costs (rows_below g m 0 r).ways (rows_below g m 0 r).waiting
      (tabulate_get_d 0 r.costs (length r.costs) refl ∙ tabulate_same 0 (length r.costs) (λ i. get_or r.costs i 0) (cost_below g m 0 r)
      (λ i b. simp (takes_none r.costs i)))
      (tabulate_get_d 0 r.ways (length r.costs) ways ∙ tabulate_same 0 (length r.costs) (λ i. get_or r.ways i 0) (way_below g m 0 r)
      (λ i b. simp (takes_none r.costs i)))
      (tabulate_get_d 0 r.waiting (length r.costs) waiting ∙ tabulate_same 0 (length r.costs) (λ i. get_or r.waiting i 0) (waiting_below g m 0 r)
      (λ i b. simp (takes_none r.costs i)))

  pub rows_long : (i : ℕ) (r : Rows)
      → (length (rows_below g m i r).costs ≡ length r.costs) × (length (rows_below g m i r).ways ≡ length r.costs)
      × (length (rows_below g m i r).waiting ≡ length r.costs)
  unfolding rows_below
  rows_long i r = (
    length_tabulate (length r.costs) (cost_below g m i r),
    length_tabulate (length r.costs) (way_below g m i r),
    length_tabulate (length r.costs) (waiting_below g m i r),
  )

  pub taken_none : (r : Rows) → taken_below g m 0 r ≡ 0
  unfolding taken_below
  taken_none r = how_many_none (length r.costs) (takes_below g m 0 r.costs) (λ i b. takes_none r.costs i)

  module _ (some : 1 ≤ g.p) where
    leader_turn : (x : ℕ) → leader g m x < 192 → turn_of_function g.p (leader g m x) < 2 * g.p + 1
    leader_turn x low =
        let l = led g.p g.most (leader g m x) x m.number (leader_found g m x low).makes in
        turn_low g.p (kind_of (leader g m x)) (from_of (leader g m x)) (to_of (leader g m x)) some l.moves.parts.from l.moves.parts.to

    takes_all : (costs : List ℕ) (j : ℕ) → takes_below g m (2 * g.p + 1) costs j ≡ takes g m costs j
    unfolding takes_below
    takes_all costs j = bool_cases (takes g m costs j)
        (λ e. simp (e, lt-ltb (turn_of_function g.p (leader_at g m j)) (2 * g.p + 1) (leader_turn (j % g.most + 1) (takes_says costs j e).led)))
        (λ e. simp e)

    pub rows_all : (r : Rows) → rows_below g m (2 * g.p + 1) r ≡ heard g m r
    unfolding rows_below cost_below way_below waiting_below heard cost_at way_at waiting_at
    rows_all r =
        rows_eq (rows_below g m (2 * g.p + 1) r) (heard g m r).costs (heard g m r).ways (heard g m r).waiting
        (tabulate_same 0 (length r.costs) (cost_below g m (2 * g.p + 1) r) (cost_at g m r) (λ i b. simp (takes_all r.costs i)))
        (tabulate_same 0 (length r.costs) (way_below g m (2 * g.p + 1) r) (way_at g m r) (λ i b. simp (takes_all r.costs i)))
        (tabulate_same 0 (length r.costs) (waiting_below g m (2 * g.p + 1) r) (waiting_at g m r) (λ i b. simp (takes_all r.costs i)))

    pub taken_all : (r : Rows) → taken_below g m (2 * g.p + 1) r ≡ taken g m r
    unfolding taken_below taken
    taken_all r = how_many_same (length r.costs) (takes_below g m (2 * g.p + 1) r.costs) (takes g m r.costs) (λ i b. takes_all r.costs i)

  -- ---- the next turn changes nothing where the same rows take an offer
  module _ (i : ℕ) (r : Rows) (same : (j : ℕ) → takes_below g m i r.costs j ≡ takes_below g m (i + 1) r.costs j) where
    pub rows_same : rows_below g m i r ≡ rows_below g m (i + 1) r
    unfolding rows_below cost_below way_below waiting_below
    rows_same =
        rows_eq (rows_below g m i r) (rows_below g m (i + 1) r).costs (rows_below g m (i + 1) r).ways (rows_below g m (i + 1) r).waiting
        (tabulate_same 0 (length r.costs) (cost_below g m i r) (cost_below g m (i + 1) r) (λ j b. simp (same j)))
        (tabulate_same 0 (length r.costs) (way_below g m i r) (way_below g m (i + 1) r) (λ j b. simp (same j)))
        (tabulate_same 0 (length r.costs) (waiting_below g m i r) (waiting_below g m (i + 1) r) (λ j b. simp (same j)))

    pub taken_same : taken_below g m i r ≡ taken_below g m (i + 1) r
    unfolding taken_below
    taken_same = how_many_same (length r.costs) (takes_below g m i r.costs) (takes_below g m (i + 1) r.costs) (λ j b. same j)

  -- a row takes the same where it takes no offer of the candidate in turn
  pub same_takes : (i : ℕ) (costs : List ℕ) (j : ℕ) → (Takes g m costs j → turn_of_function g.p (leader_at g m j) ≡ i → ⊥)
      → takes_below g m i costs j ≡ takes_below g m (i + 1) costs j
  unfolding takes_below
  same_takes i costs j none = bool_cases (takes g m costs j) (λ e. simp (e, tests (none (takes_says costs j e)))) (λ e. simp e)
    where
      turn : ℕ
      turn = turn_of_function g.p (leader_at g m j)

      tests : (turn ≡ i → ⊥) → ltb turn i ≡ ltb turn (i + 1)
      tests other = by_cases (dec_lt turn i)
          (λ low. lt-ltb turn i low ∙ sym (lt-ltb turn (i + 1) (omega arith)))
          (λ n. by_cases (dec_lt turn (i + 1))
          (λ low. absurd (other (omega arith)))
          (λ high. le-ltb turn i (omega arith) ∙ sym (le-ltb turn (i + 1) (omega arith))))
