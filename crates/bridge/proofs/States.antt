-- The state of a table at a vertex, and at a number that is no vertex.
use Prim.Native.Nat.{ℕ, ◌/◌, ◌%◌, ◌≤◌, ◌<◌}
use mathlib.Core.Path.{◌≡◌, ap}
use mathlib.Core.Bool.{false}
use lib.ListN.{get_or}
use borrow.Author.Tests.{lt-ltb, le-ltb}
use Rattle.functions.specs.Answers.{applied_of, number_after}
use Rattle.bits.specs.Bits.{has}
use Rattle.network.specs.Network.{Network}
use Rattle.table.specs.Table.{Table, no_row, rows_each, vertex_number}
use Rattle.bridge.specs.Bridge.{vertex_place, vertex_cost, vertex_waiting, vertex_made, leads_to, vertex_next}

module _ (net : Network) (D : ℕ) (t : Table) (v : ℕ) where
  pub cost_inside : v < rows_each net → vertex_cost net D t v ≡ get_or t.cost (vertex_place net D v) 0
  unfolding vertex_cost
  cost_inside b = simp (lt-ltb v (rows_each net) b)

  pub cost_outside : rows_each net ≤ v → vertex_cost net D t v ≡ no_row
  unfolding vertex_cost
  cost_outside b = simp (le-ltb v (rows_each net) b)

  pub next_inside : v < rows_each net → vertex_next net D t v ≡ leads_to net (get_or t.way (vertex_place net D v) 0) (vertex_number net v)
  unfolding vertex_next
  next_inside b = simp (lt-ltb v (rows_each net) b)

  pub next_outside : rows_each net ≤ v → vertex_next net D t v ≡ 0
  unfolding vertex_next
  next_outside b = simp (le-ltb v (rows_each net) b)

  pub waiting_inside : (U : ℕ) → v < rows_each net → vertex_waiting net D t v U ≡ has (get_or t.waiting (vertex_place net D v) 0) U
  unfolding vertex_waiting
  waiting_inside U b = simp (lt-ltb v (rows_each net) b)

  pub waiting_outside : (U : ℕ) → rows_each net ≤ v → vertex_waiting net D t v U ≡ false
  unfolding vertex_waiting
  waiting_outside U b = simp (le-ltb v (rows_each net) b)

-- a way that makes no stack
pub leads_nowhere : (net : Network) (way N : ℕ) → number_after (applied_of net.p net.h (way % 256) N) ≡ 0 → leads_to net way N ≡ rows_each net
unfolding leads_to
leads_nowhere net way N none = ap (vertex_made net (way / 256)) none
