-- No carry meets a broken row, and one with the largest step limit never runs out of it: costs fall strictly from hop to hop, so that a packet meets no row
-- twice.
use Prim.Native.Nat.{ℕ, zero, suc, ◌≤◌, ◌<◌}
use native.Mathlib.Decide.{ℕ_discrete}
use native.Mathlib.Nat.{le_refl}
use native.Mathlib.Omega.{arith}
use mathlib.Core.Path.{◌≡◌}
use mathlib.Core.Logic.{◌≢◌, by_cases}
use mathlib.Core.List.{List}
use mathlib.Core.Bool.{true, false, ◌&&◌}
use lib.Dec.{leb}
use borrow.Author.Tests.{eq-eqb, ne_eqb, leb-true, le-leb, lt-leb}
use Rattle.std.specs.Prelude.{Ok, Err}
use Rattle.lists.proofs.Tests.{bool_cases, both}
use Rattle.lists.specs.Lists.{one}
use Rattle.refusal.specs.declared.Refusal.{Refusal}
use Rattle.relax.specs.Journeys.{sum}
use Rattle.relax.proofs.Sum.{sum_lt, sum_most, bit_one, bit_le, bit_lt}
use Rattle.stacks.specs.Stacks.{number}
use Rattle.network.specs.Network.{Network}
use Rattle.network.proofs.Laws.{valid}
use Rattle.table.specs.Table.{Table, no_row, rows_each, home, vertex}
use Rattle.table.specs.Answers.{refusal}
use Rattle.table.proofs.Rows.{Stack, vertex_below}
use Rattle.forward.specs.Forward.{forward, cost_of, next_of, function_of, result_of, look_at}
use Rattle.carry.specs.Carry.{journey, carry_of}
use Rattle.packet.specs.Packet.{ok_packet}
use Rattle.forward.specs.declared.Look.{Look}
use Rattle.bridge.specs.Bridge as bridged
use Rattle.promise.specs.Routes.{Network16, Reached}
use Rattle.promise.proofs.Reaching.{reached_refusal}
use Rattle.promise.proofs.Ways.{Away}
use Rattle.promise.proofs.Onward.{cost_is, goes_on, row_ok}
use Rattle.promise.proofs.Looking.{packet, numbered}

-- ---- how many rows for the destination D cost at most c
module _ (net : Network) (t : Table) (D : ℕ) where
  pub rank : ℕ → ℕ
  rank c = sum (rows_each net) (λ v. one (leb (bridged.vertex_cost net D t v) c))

  pub rank_most : (c : ℕ) → rank c ≤ rows_each net
  unfolding rank
  rank_most c = omega (arith, sum_most (rows_each net) 1 _ (λ v. bit_one (leb (bridged.vertex_cost net D t v) c)))

  -- a row counts for its own cost, and for none below
  rank_lt : (c v : ℕ) → v < rows_each net → c < bridged.vertex_cost net D t v → rank c < rank (bridged.vertex_cost net D t v)
  unfolding rank
  rank_lt c v b h =
      let e = bridged.vertex_cost net D t v in
      sum_lt (rows_each net) _ _
      (λ i. let a = bridged.vertex_cost net D t i in bit_le (leb a c) (leb a e) (λ p. le-leb a e (omega (arith, leb-true a c p))))
      v b (bit_lt (leb e c) (leb e e) (lt-leb e c h) (le-leb e e (le_refl e)))

module _ (net : Network) (ok : Network16 net) (t : Table) (r : Reached net t) (D : ℕ) (d : D < net.n) where
  -- ---- what a node does with a packet whose stack has number N
  module _ (U N : ℕ) (u : U < net.n) (n : Stack net N) where
    pub away_row : home net U D N ≡ false → Away net U D N
    away_row e = record { node = u; destination = d; stack = n; away = e }

    pub looks_home : home net U D N ≡ true → look_at net t U D N ≡ Ok Look.Delivered
    unfolding look_at
    looks_home e = simp e

    looks_none : home net U D N ≡ false → cost_of net t U D N ≡ no_row → look_at net t U D N ≡ Err Refusal.NoRoute
    unfolding look_at
    looks_none e c = simp (e, eq-eqb (cost_of net t U D N) no_row c)

    pub looks_on : home net U D N ≡ false → cost_of net t U D N ≢ no_row
        → look_at net t U D N ≡ forward (next_of net t U D N) (function_of net t U D N) (result_of net t U D N) (cost_of net t U D N)
    unfolding look_at
    looks_on e c = simp (e, ne_eqb (cost_of net t U D N) no_row c, row_ok net ok t r U D N (away_row e) c)

    -- each hop leads to a row that fewer rows are as cheap as
    pub rank_falls : home net U D N ≡ false → cost_of net t U D N ≢ no_row
        → rank net t D (cost_of net t (next_of net t U D N) D (result_of net t U D N)) < rank net t D (cost_of net t U D N)
    rank_falls e c =
        let g = goes_on net ok t r U D N (away_row e) c in
        let same = cost_is net U D N u n t in
        rw same at (rank_lt net t D (cost_of net t (next_of net t U D N) D (result_of net t U D N)) (vertex net U N) (vertex_below net U N u n)
        (omega (arith, same, g.pays, g.some)))

  -- ---- so hops enough for the rank are enough
  journey_ends : (left U N : ℕ) → U < net.n → Stack net N → rank net t D (cost_of net t U D N) ≤ left → (journey net t D left U N).refused ≢ 8
  journey_ends zero U N u n h = bool_cases (home net U D N)
      (λ e. rw (looks_home U N u n e) (λ (z : ◌≡◌ {A = ℕ} 0 8). omega arith))
      (λ e. by_cases (ℕ_discrete (cost_of net t U D N) no_row)
      (λ c. rw (looks_none U N u n e c) (λ (z : ◌≡◌ {A = ℕ} 6 8). omega arith))
      (λ c. absurd (omega (arith, rank_falls U N u n e c))))
  journey_ends (suc left) U N u n h = bool_cases (home net U D N)
      (λ e. rw (looks_home U N u n e) (λ (z : ◌≡◌ {A = ℕ} 0 8). omega arith))
      (λ e. by_cases (ℕ_discrete (cost_of net t U D N) no_row)
      (λ c. rw (looks_none U N u n e c) (λ (z : ◌≡◌ {A = ℕ} 6 8). omega arith))
      (λ c. let g = goes_on net ok t r U D N (away_row U N u n e) c in
      rw (looks_on U N u n e c)
      (journey_ends left (next_of net t U D N) (result_of net t U D N) g.next_node g.next_stack (omega (arith, rank_falls U N u n e c)))))

  -- and no row that is met is broken
  journey_knows : (left U N : ℕ) → U < net.n → Stack net N → (journey net t D left U N).refused ≢ 7
  journey_knows zero U N u n = bool_cases (home net U D N)
      (λ e. rw (looks_home U N u n e) (λ (z : ◌≡◌ {A = ℕ} 0 7). omega arith))
      (λ e. by_cases (ℕ_discrete (cost_of net t U D N) no_row)
      (λ c. rw (looks_none U N u n e c) (λ (z : ◌≡◌ {A = ℕ} 6 7). omega arith))
      (λ c. rw (looks_on U N u n e c) (λ (z : ◌≡◌ {A = ℕ} 8 7). omega arith)))
  journey_knows (suc left) U N u n = bool_cases (home net U D N)
      (λ e. rw (looks_home U N u n e) (λ (z : ◌≡◌ {A = ℕ} 0 7). omega arith))
      (λ e. by_cases (ℕ_discrete (cost_of net t U D N) no_row)
      (λ c. rw (looks_none U N u n e c) (λ (z : ◌≡◌ {A = ℕ} 6 7). omega arith))
      (λ c. let g = goes_on net ok t r U D N (away_row U N u n e) c in
      rw (looks_on U N u n e c) (journey_knows left (next_of net t U D N) (result_of net t U D N) g.next_node g.next_stack)))

-- ---- and there are at most 16,384 rows
module _ (net : Network) (ok : Network16 net) (t : Table) (U D : ℕ) (stack : List ℕ) (r : Reached net t) where
  carry_ends : (limit : ℕ) → limit ≤ 16384 → rows_each net ≤ limit → (carry_of net t U D stack limit).refused ≢ 8
  unfolding carry_of
  carry_ends limit few enough = bool_cases (ok_packet net U D stack)
      (λ e. let k = packet net t U D stack e in
      rw (eq-eqb (refusal net t) 0 (reached_refusal net ok r), e, le-leb limit 16384 few)
      (journey_ends net ok t r D k.destination limit U (number net.p stack) k.node (numbered net ok stack k.stack_ok)
      (omega (arith, rank_most net t D (cost_of net t U D (number net.p stack))))))
      (λ e. rw (eq-eqb (refusal net t) 0 (reached_refusal net ok r), e) (λ (z : ◌≡◌ {A = ℕ} 4 8). omega arith))

  pub carry_never_7 : (limit : ℕ) → (carry_of net t U D stack limit).refused ≢ 7
  unfolding carry_of
  carry_never_7 limit = bool_cases (ok_packet net U D stack && leb limit 16384)
      (λ e. let k = packet net t U D stack (both (ok_packet net U D stack) (leb limit 16384) e).0 in
      rw (eq-eqb (refusal net t) 0 (reached_refusal net ok r), e)
      (journey_knows net ok t r D k.destination limit U (number net.p stack) k.node (numbered net ok stack k.stack_ok)))
      (λ e. rw (eq-eqb (refusal net t) 0 (reached_refusal net ok r), e) (λ (z : ◌≡◌ {A = ℕ} 4 7). omega arith))

  pub never_8 : (carry_of net t U D stack 16384).refused ≢ 8
  never_8 = carry_ends 16384 (le_refl 16384) (valid net ok.valid).room
