-- A fresh table is a first state.
use Prim.Native.Nat.{ℕ, ◌<◌}
use native.Mathlib.Decide.{dec_lt}
use native.Mathlib.Omega.{arith}
use mathlib.Core.Path.{◌≡◌, refl, ap, ◌∙◌}
use mathlib.Core.Logic.{by_cases}
use mathlib.Core.Bool.{Bool, true, false, cond}
use lib.ListN.{get_or}
use lib.Dec.{ltb}
use borrow.Author.Tests.{ltb-true, lt-ltb}
use Rattle.lists.proofs.Tests.{both}
use Rattle.lists.proofs.Tables.{length_tabulate, get_or_tabulate}
use Rattle.relax.specs.Graph.{Fresh}
use Rattle.bits.specs.Bits.{has}
use Rattle.bits.proofs.Laws.{has_zero}
use Rattle.network.specs.Network.{Network, neighbours}
use Rattle.network.proofs.Laws.{has_neighbours}
use Rattle.table.specs.Table.{no_row, no_way, rows_each, rows_all, place, node_at, home, home_at, fresh, Sized, vertex_node, vertex_number}
use Rattle.bridge.specs.Bridge.{home_of, graph_of, vertex_cost, vertex_waiting, state_of}
use Rattle.table.proofs.Rows.{Stack, is_vertex, place_below, place_node, place_destination, place_number}
use Rattle.bridge.proofs.States.{cost_inside, cost_outside, waiting_inside, waiting_outside}

module _ (net : Network) where
  pub fresh_sized : Sized net (fresh net)
  unfolding fresh
  fresh_sized = record {
    costs = length_tabulate (rows_all net) (λ i. cond (home_at net i) 0 no_row);
    ways = length_tabulate (rows_all net) (λ i. no_way);
    waits = length_tabulate (rows_all net) (λ i. cond (home_at net i) (neighbours net (node_at net i)) 0);
  }

  -- ---- a row of a fresh table
  module _ (U D N : ℕ) (d : D < net.n) (n : Stack net N) where
    home_at_lem : home_at net (place net U D N) ≡ home net U D N
    home_at_lem = rw (place_node net U D N d n, place_destination net U D N d n, place_number net U D N n) refl

    pub fresh_cost : U < net.n → get_or (fresh net).cost (place net U D N) 0 ≡ cond (home net U D N) 0 no_row
    unfolding fresh
    fresh_cost u =
        get_or_tabulate (rows_all net) (λ i. cond (home_at net i) 0 no_row) (place net U D N) 0 (place_below net U D N u d n)
        ∙ ap (λ (b : Bool). cond b 0 no_row) home_at_lem

    pub fresh_waiting : U < net.n → get_or (fresh net).waiting (place net U D N) 0 ≡ cond (home net U D N) (neighbours net U) 0
    unfolding fresh
    fresh_waiting u =
        get_or_tabulate (rows_all net) (λ i. cond (home_at net i) (neighbours net (node_at net i)) 0) (place net U D N) 0 (place_below net U D N u d n)
        ∙ simp (place_node net U D N d n, place_destination net U D N d n, place_number net U D N n)

  -- ---- the state of a fresh table
  module _ (D : ℕ) (d : D < net.n) where
    cost_at : (v : ℕ) → v < rows_each net → vertex_cost net D (fresh net) v ≡ cond (home net (vertex_node net v) D (vertex_number net v)) 0 no_row
    cost_at v b =
        let w = is_vertex net v b in
        cost_inside net D (fresh net) v b ∙ fresh_cost (vertex_node net v) D (vertex_number net v) d w.stack w.node

    waiting_at : (v U : ℕ) → v < rows_each net → vertex_waiting net D (fresh net) v U ≡ has (cond (home net (vertex_node net v) D (vertex_number net v))
        (neighbours net (vertex_node net v)) 0) U
    waiting_at v U b =
        let w = is_vertex net v b in
        waiting_inside net D (fresh net) v U b ∙ ap (λ (x : ℕ). has x U) (fresh_waiting (vertex_node net v) D (vertex_number net v) d w.stack w.node)

    home_facts : (v : ℕ) → home_of net D v ≡ true → (v < rows_each net) × (home net (vertex_node net v) D (vertex_number net v) ≡ true)
    unfolding home_of
    home_facts v e =
        let t = both (ltb v (rows_each net)) (home net (vertex_node net v) D (vertex_number net v)) e in
        (ltb-true v (rows_each net) t.0, t.1)

    away_facts : (v : ℕ) → v < rows_each net → home_of net D v ≡ false → home net (vertex_node net v) D (vertex_number net v) ≡ false
    unfolding home_of
    away_facts v b e = simp (lt-ltb v (rows_each net) b) at e

    pub fresh_is_fresh : Fresh (graph_of net D) (state_of net D (fresh net))
    fresh_is_fresh = record {
      home_cost = λ v e. let h = home_facts v e in cost_at v h.0 ∙ simp h.1;
      away_cost = λ v e. by_cases (dec_lt v (rows_each net))
          (λ b. cost_at v b ∙ simp (away_facts v b e))
          (λ b. cost_outside net D (fresh net) v (omega arith));
      home_waiting = λ v U e. let h = home_facts v e in waiting_at v U h.0 ∙ simp (h.1, has_neighbours net (vertex_node net v) U);
      away_waiting = λ v U e. by_cases (dec_lt v (rows_each net))
          (λ b. waiting_at v U b ∙ simp (away_facts v b e, has_zero U))
          (λ b. waiting_outside net D (fresh net) v U (omega arith));
    }
