-- What the function grids hold by the test of the code, and what an entry that is not 0 tells.
use Prim.Native.Nat.{ℕ, ◌+◌, ◌*◌, ◌≤◌, ◌<◌}
use mathlib.Core.Path.{◌≡◌, refl, sym, ◌∙◌}
use mathlib.Core.List.{List}
use mathlib.Core.Bool.{Bool, true, false, ◌&&◌, and-false, and_assoc}
use lib.ListN.{get_or}
use lib.Dec.{leb, ltb}
use borrow.Author.Tests.{ltb-true, leb-true, lt-leb}
use Rattle.lists.proofs.Tests.{both}
use Rattle.network.specs.Network.{is_node}
use Rattle.network.proofs.Entries.{cond_some, cond_most}
use Rattle.gateways.specs.Gateways.{word_at}

-- what an entry of a function grid that is not 0 tells of its place
pub record Placed (n p U kind a b : ℕ) : Type 0 where
  pub node : is_node n U ≡ true
  pub few : p ≤ 8
  pub kinds : kind < 3
  pub from : a < p
  pub to : b < p

-- ---- the code's test of a place
module _ (n p U kind a b : ℕ) where
  abbrev pub is_place : Bool
  is_place = ((((leb n 32 && ltb U n) && leb p 8) && ltb kind 3) && ltb a p) && ltb b p

  pub is_place_lem : is_place ≡ (is_node n U && (leb p 8 && (ltb kind 3 && (ltb a p && ltb b p))))
  unfolding is_node
  is_place_lem = simp and_assoc

  placed_by : (is_node n U && (leb p 8 && (ltb kind 3 && (ltb a p && ltb b p)))) ≡ true → Placed n p U kind a b
  placed_by t =
      let u = both (is_node n U) (leb p 8 && (ltb kind 3 && (ltb a p && ltb b p))) t in
      let v = both (leb p 8) (ltb kind 3 && (ltb a p && ltb b p)) u.1 in
      let w = both (ltb kind 3) (ltb a p && ltb b p) v.1 in
      let x = both (ltb a p) (ltb b p) w.1 in
      record { node = u.0; few = leb-true p 8 v.0; kinds = ltb-true kind 3 w.0; from = ltb-true a p x.0; to = ltb-true b p x.1 }

  pub place_says : is_place ≡ true → Placed n p U kind a b
  place_says e = placed_by (sym is_place_lem ∙ e)

module _ (n p : ℕ) (functions : List ℕ) (U kind a b : ℕ) where
  pub word_none : is_place n p U kind a b ≡ false → word_at n p functions U kind a b ≡ 0
  unfolding word_at
  word_none e = rw (sym (is_place_lem n p U kind a b) ∙ e) refl

  pub word_many : 8 < p → word_at n p functions U kind a b ≡ 0
  unfolding word_at
  word_many many = simp (lt-leb p 8 many, and-false (is_node n U))

  pub word_there : is_place n p U kind a b ≡ true → word_at n p functions U kind a b ≡ get_or functions (((U * 3 + kind) * p + a) * p + b) 0
  unfolding word_at
  word_there e = rw (sym (is_place_lem n p U kind a b) ∙ e) refl

  pub word_placed : ltb 0 (word_at n p functions U kind a b) ≡ true → Placed n p U kind a b
  unfolding word_at
  word_placed e =
      placed_by n p U kind a b (cond_some (is_node n U && (leb p 8 && (ltb kind 3 && (ltb a p && ltb b p))))
      (get_or functions (((U * 3 + kind) * p + a) * p + b) 0) e)

  pub word_most : (m : ℕ) → get_or functions (((U * 3 + kind) * p + a) * p + b) 0 ≤ m → word_at n p functions U kind a b ≤ m
  unfolding word_at
  word_most m h =
      cond_most (is_node n U && (leb p 8 && (ltb kind 3 && (ltb a p && ltb b p)))) (get_or functions (((U * 3 + kind) * p + a) * p + b) 0) m h
