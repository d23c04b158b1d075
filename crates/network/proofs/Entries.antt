-- Where the link grid has no link, and what an entry that is not 0 tells.
use Prim.Native.Nat.{ℕ, ◌+◌, ◌*◌, ◌≤◌, ◌<◌}
use native.Mathlib.Omega.{arith}
use mathlib.Core.Path.{◌≡◌, refl}
use mathlib.Core.List.{List}
use mathlib.Core.Bool.{Bool, true, false, cond, ◌&&◌, and-false}
use lib.ListN.{get_or}
use lib.Dec.{leb, ltb}
use borrow.Author.Tests.{ltb-true, leb-true, le-ltb, lt-leb}
use Rattle.lists.proofs.Tests.{both}
use Rattle.network.specs.Network.{is_node, link_at}

-- ---- nodes
module _ (n U : ℕ) where
  pub node_many : 32 < n → is_node n U ≡ false
  unfolding is_node
  node_many many = simp (lt-leb n 32 many)

  pub node_past : n ≤ U → is_node n U ≡ false
  unfolding is_node
  node_past high = rw (le-ltb U n high) (and-false (leb n 32))

  pub node_is : is_node n U ≡ true → (U < n) × (n ≤ 32)
  unfolding is_node
  node_is e = let b = both (leb n 32) (ltb U n) e in (ltb-true U n b.1, leb-true n 32 b.0)

-- an entry that is read under a test, and is not 0, passed it
pub cond_some : (t : Bool) (x : ℕ) → ltb 0 (cond t x 0) ≡ true → t ≡ true
cond_some true x e = refl
cond_some false x e = absurd (omega (arith, ltb-true 0 0 e))

-- and it is an entry of the list
pub cond_most : (t : Bool) (x m : ℕ) → x ≤ m → cond t x 0 ≤ m
cond_most true x m h = h
cond_most false x m h = omega arith

-- ---- links
module _ (n : ℕ) (links : List ℕ) (U W : ℕ) where
  pub link_from_none : is_node n U ≡ false → link_at n links U W ≡ 0
  unfolding link_at
  link_from_none e = simp e

  pub link_to_none : is_node n W ≡ false → link_at n links U W ≡ 0
  unfolding link_at
  link_to_none e = rw (e, and-false (is_node n U))

  pub link_nodes : ltb 0 (link_at n links U W) ≡ true → (is_node n U ≡ true) × (is_node n W ≡ true)
  unfolding link_at
  link_nodes e = both (is_node n U) (is_node n W) (cond_some (is_node n U && is_node n W) (get_or links (U * n + W) 0) e)

  pub link_most : (m : ℕ) → get_or links (U * n + W) 0 ≤ m → link_at n links U W ≤ m
  unfolding link_at
  link_most m h = cond_most (is_node n U && is_node n W) (get_or links (U * n + W) 0) m h
