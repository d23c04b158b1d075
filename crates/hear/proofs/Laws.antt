-- THE LAWS of hearing that the crates above cite: who leads where, and what the rows hold afterwards.
use Prim.Native.Nat.{ℕ, zero, suc, ◌+◌, ◌/◌, ◌%◌, ◌<◌}
use native.Mathlib.Decide.{dec_lt}
use native.Mathlib.Omega.{arith}
use mathlib.Core.Path.{◌≡◌, refl, sym, ap, ap₂, ◌∙◌}
use mathlib.Core.Logic.{by_cases}
use mathlib.Core.List.{List}
use mathlib.Core.Bool.{Bool, true, cond, ◌&&◌}
use lib.ListN.{length, get_or}
use lib.Dec.{ltb, eqb}
use borrow.Author.Tests.{le-ltb}
use Rattle.lists.specs.Lists.{first_from, first_below}
use Rattle.lists.proofs.Tests.{bool_cases}
use Rattle.lists.proofs.Tables.{length_tabulate, get_or_tabulate, tabulate_same}
use Rattle.lists.proofs.Counts.{how_many_same}
use Rattle.relax.specs.Graph.{wins}
use Rattle.functions.specs.Answers.{moved_of}
use Rattle.functions.specs.Answers.{made}
use Rattle.hear.specs.Hearing.{Gateway, Message, Rows, leads_by, leader, leader_at, offer, takes, cost_at, way_at, waiting_at, heard, taken}
use Rattle.hear.proofs.Leaders.{leader_found, leader_only}
use Rattle.hear.proofs.Below.{rows_eq, takes_says}

module _ (g : Gateway) (m : Message) where
  -- The leader is a function that the gateway has, and it makes the heard stack.
  pub leader_leads : (n : ℕ) → leader g m n < 192 → (0 < g.words (leader g m n)) × (moved_of g.p g.most (leader g m n) n ≡ made m.number)
  leader_leads n low = ((leader_found g m n low).has, (leader_found g m n low).makes)

  -- A function that the gateway has and that makes the heard stack is the leader.
  pub leader_is : (n f : ℕ) → f < 192 → 0 < g.words f → moved_of g.p g.most f n ≡ made m.number → leader g m n ≡ f
  leader_is n f low has makes = leader_only g m n f low (record { has = has; makes = makes })

  -- The lists keep their length,
  pub heard_long : (r : Rows)
      → (length (heard g m r).costs ≡ length r.costs) × (length (heard g m r).ways ≡ length r.costs) × (length (heard g m r).waiting ≡ length r.costs)
  unfolding heard
  heard_long r = (
    length_tabulate (length r.costs) (cost_at g m r),
    length_tabulate (length r.costs) (way_at g m r),
    length_tabulate (length r.costs) (waiting_at g m r),
  )

  -- and hold at each place what is said of that place.
  pub get_or_heard_costs : (r : Rows) (j : ℕ) → j < length r.costs → get_or (heard g m r).costs j 0 ≡ cost_at g m r j
  unfolding heard
  get_or_heard_costs r j low = get_or_tabulate (length r.costs) (cost_at g m r) j 0 low

  pub get_or_heard_ways : (r : Rows) (j : ℕ) → j < length r.costs → get_or (heard g m r).ways j 0 ≡ way_at g m r j
  unfolding heard
  get_or_heard_ways r j low = get_or_tabulate (length r.costs) (way_at g m r) j 0 low

  pub get_or_heard_waiting : (r : Rows) (j : ℕ) → j < length r.costs → get_or (heard g m r).waiting j 0 ≡ waiting_at g m r j
  unfolding heard
  get_or_heard_waiting r j low = get_or_tabulate (length r.costs) (waiting_at g m r) j 0 low

  -- A row takes an offer just where it is the destination's, has a leader, and the leader's offer is below its cost.
  pub takes_facts : (costs : List ℕ) (j : ℕ) → takes g m costs j ≡ true
      → (j / g.most ≡ m.destination) × (leader_at g m j < 192) × (offer g m (leader_at g m j) < get_or costs j 0)
  takes_facts costs j e =
      let t = takes_says g m costs j e in
      (t.there, t.led, t.less)

-- ---- gateways that agree hear alike
pub record Alike (g h : Gateway) : Type 0 where
  pub p : g.p ≡ h.p
  pub most : g.most ≡ h.most
  pub neighbours : g.neighbours ≡ h.neighbours
  pub words : (f : ℕ) → f < 192 → g.words f ≡ h.words f

first_same : (i k : ℕ) (t u : ℕ → Bool) → ((j : ℕ) → j < i + k → t j ≡ u j) → first_from i k t ≡ first_from i k u
first_same i zero t u same = refl
first_same i (suc k) t u same =
    ap₂ (λ (b : Bool) (x : ℕ). cond b i x) (same i (omega arith)) (first_same (suc i) k t u (λ j low. same j (omega arith)))

module _ (g h : Gateway) (m : Message) (a : Alike g h) where
  leads_same : (n f : ℕ) → f < 192 → leads_by g m n f ≡ leads_by h m n f
  unfolding leads_by
  leads_same n f low = simp (a.words f low, a.p, a.most)

  leader_same : (n : ℕ) → leader g m n ≡ leader h m n
  unfolding leader first_below
  leader_same n = first_same 0 192 (leads_by g m n) (leads_by h m n) (λ j low. leads_same n j (omega arith))

  leader_at_same : (j : ℕ) → leader_at g m j ≡ leader_at h m j
  leader_at_same j = leader_same (j % g.most + 1) ∙ ap (λ (x : ℕ). leader h m (j % x + 1)) a.most

  offer_same : (f : ℕ) → f < 192 → offer g m f ≡ offer h m f
  unfolding offer
  offer_same f low = simp (a.words f low)

  -- the offer matters only below 192
  leads_alike : (costs : List ℕ) (j x y : ℕ) → x ≡ y → (ltb x 192 && wins (offer g m x) (get_or costs j 0))
      ≡ (ltb y 192 && wins (offer h m y) (get_or costs j 0))
  leads_alike costs j x y e = by_cases (dec_lt y 192)
      (λ low. rw e (ap (λ (o : ℕ). ltb y 192 && wins o (get_or costs j 0)) (offer_same y low)))
      (λ high. simp (e, le-ltb y 192 (omega arith)))

  takes_same : (costs : List ℕ) (j : ℕ) → takes g m costs j ≡ takes h m costs j
  unfolding takes
  takes_same costs j =
      ap₂ (λ (b d : Bool). b && d) (ap (λ (x : ℕ). eqb (j / x) m.destination) a.most) (leads_alike costs j (leader_at g m j) (leader_at h m j)
      (leader_at_same j))

  pub taken_same : (r : Rows) → taken g m r ≡ taken h m r
  unfolding taken
  taken_same r = how_many_same (length r.costs) (takes g m r.costs) (takes h m r.costs) (λ j low. takes_same r.costs j)

  cost_same : (r : Rows) (j : ℕ) → cost_at g m r j ≡ cost_at h m r j
  unfolding cost_at
  cost_same r j = bool_cases (takes g m r.costs j)
      (λ e. simp (e, sym (takes_same r.costs j) ∙ e) (offer_same (leader_at g m j) (takes_facts g m r.costs j e).1 ∙ ap (offer h m) (leader_at_same j)))
      (λ e. simp (e, sym (takes_same r.costs j) ∙ e))

  way_same : (r : Rows) (j : ℕ) → way_at g m r j ≡ way_at h m r j
  unfolding way_at
  way_same r j = simp (takes_same r.costs j, leader_at_same j)

  waiting_same : (r : Rows) (j : ℕ) → waiting_at g m r j ≡ waiting_at h m r j
  unfolding waiting_at
  waiting_same r j = simp (takes_same r.costs j, a.neighbours)

  pub heard_same : (r : Rows) → heard g m r ≡ heard h m r
  unfolding heard
  heard_same r =
      rows_eq (heard g m r) (heard h m r).costs (heard h m r).ways (heard h m r).waiting
      (tabulate_same 0 (length r.costs) (cost_at g m r) (cost_at h m r) (λ j low. cost_same r j))
      (tabulate_same 0 (length r.costs) (way_at g m r) (way_at h m r) (λ j low. way_same r j))
      (tabulate_same 0 (length r.costs) (waiting_at g m r) (waiting_at h m r) (λ j low. waiting_same r j))
