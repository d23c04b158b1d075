-- What the crates above cite of what gateways can do: what a function, an accepted protocol and a weight tell.
use Prim.Native.Nat.{ℕ, ◌+◌, ◌*◌, ◌≤◌, ◌<◌}
use native.Mathlib.Omega.{arith}
use mathlib.Core.Path.{◌≡◌, ap, ◌∙◌}
use mathlib.Core.Logic.{⊎_elim}
use mathlib.Core.List.{List, []}
use mathlib.Core.Bool.{true}
use lib.ListN.{get_or}
use lib.Dec.{ltb}
use borrow.Author.Tests.{ltb-true}
use Rattle.lists.specs.Lists.{tabulate, some}
use Rattle.lists.proofs.Tables.{get_or_tabulate}
use Rattle.lists.proofs.Tests.{either, some_where}
use Rattle.functions.specs.Functions.{ok_function, kind_of, from_of, to_of}
use Rattle.functions.proofs.Tests.{ok_function_yes}
use Rattle.network.specs.Network.{Network, link, present}
use Rattle.network.proofs.Entries.{node_is, link_most}
use Rattle.gateways.specs.Gateways.{word_at, grid_of, can, price, weight, receives_at, accepts}
use Rattle.gateways.proofs.Entries.{Placed, word_placed, word_most}

module _ (net : Network) where
  pub can_function : (U f : ℕ) → can net U f ≡ true → (U < net.n) × (ok_function net.p f ≡ true)
  unfolding can
  can_function U f e =
      let t = word_placed net.n net.p net.functions U (kind_of f) (from_of f) (to_of f) e in
      ((node_is net.n U t.node).0, ok_function_yes net.p f (omega (arith, t.kinds)) t.from t.to)

  -- where some word is not 0, its place is inside the grids: f and g tell of it the row and the column
  some_placed : (D kind : ℕ) (f g : ℕ → ℕ) → some net.p (λ i. ltb 0 (word_at net.n net.p net.functions D kind (f i) (g i))) ≡ true
      → (i : ℕ) × Placed net.n net.p D kind (f i) (g i)
  some_placed D kind f g e =
      let w = some_where net.p _ e in
      (w.0, word_placed net.n net.p net.functions D kind (f w.0) (g w.0) w.2)

  row_below : (D kind x : ℕ) → some net.p (λ b. ltb 0 (word_at net.n net.p net.functions D kind x b)) ≡ true → (D < net.n) × (x < net.p)
  row_below D kind x e = let t = (some_placed D kind (λ i. x) (λ i. i) e).1 in ((node_is net.n D t.node).0, t.from)

  pub accepts_below : (D x : ℕ) → accepts net D x ≡ true → (D < net.n) × (x < net.p)
  unfolding accepts receives_at
  accepts_below D x e = ⊎_elim
      (λ h. row_below D 0 x h)
      (λ h. ⊎_elim (λ g. row_below D 1 x g) (λ g. let t = (some_placed D 2 (λ i. i) (λ i. x) g).1 in ((node_is net.n D t.node).0, t.to)) (either _ _ h))
      (either _ _ e)

  pub weight_most : (U f W : ℕ) → ((i : ℕ) → get_or net.links i 0 < 65536) → ((i : ℕ) → get_or net.functions i 0 < 65536) → weight net U f W ≤ 131069
  unfolding weight price
  weight_most U f W costs words =
      omega (
        arith,
        link_most net.n net.links U W 65535 (omega (arith, costs (U * net.n + W))),
        word_most net.n net.p net.functions U (kind_of f) (from_of f) (to_of f) 65535
            (omega (arith, words (((U * 3 + kind_of f) * net.p + from_of f) * net.p + to_of f))),
      )

  pub weight_some : (U f W : ℕ) → present net U W ≡ true → 0 < weight net U f W
  unfolding weight present
  weight_some U f W e = omega (arith, ltb-true 0 (link net U W) e)

-- ---- the array of arrays
pub grid_word : (n p : ℕ) (functions : List ℕ) (U kind a b : ℕ) → a < 8 → b < 8
    → get_or (get_or (grid_of n p functions U kind) a []) b 0 ≡ word_at n p functions U kind a b
grid_word n p functions U kind a b la lb =
    ap (λ (l : List ℕ). get_or l b 0) (get_or_tabulate 8 (λ i. tabulate 8 (λ j. word_at n p functions U kind i j)) a [] la)
    ∙ get_or_tabulate 8 (λ j. word_at n p functions U kind a j) b 0 lb
