-- Laws of the walk over nodes, rows and bits: one step on, and the answer where a bit is set.
use mathlib.Core.Path.{◌≡◌, sym, ap, ◌∙◌}
use mathlib.Core.Bool.{true, false}
use mathlib.Core.List.{List}
use Prim.Native.Nat.{ℕ, ◌+◌, ◌*◌, ◌^◌, ◌≤◌, ◌<◌}
use native.Mathlib.Nat.{zero-mul, suc-mul}
use native.Mathlib.Numerals.{add-one}
use native.Mathlib.Decide.{dec_lt}
use native.Mathlib.Omega.{arith}
use lib.ListN.{length, get_or}
use lib.Arith.{digits_lt}
use Rattle.bits.specs.Bits.{has, lowest}
use Rattle.bits.proofs.LowestBit.{lowest_has, lowest_first}
use Rattle.std.specs.Prelude.{None}
use Rattle.words.specs.Words.{found_at, first_in, first_between}
use Rattle.words.proofs.Answers.{first_whole}
use Rattle.words.proofs.Search.{first_here, first_next, first_end}
use Rattle.table.proofs.Firsts.{Ahead}

-- the walk begins in front
pub at_start : (ws : List ℕ) (rows : ℕ) → Ahead ws (0 * rows)
at_start ws rows = ap (λ (i : ℕ). first_between i (length ws) ws) (zero-mul rows) ∙ first_whole ws

-- the first bit that is set is the lowest
lowest_is : (w v : ℕ) → 0 < w → w < 2 ^ 32 → ((k : ℕ) → k < v → has w k ≡ false) → has w v ≡ true → lowest w ≡ v
lowest_is w v p f below one = go (dec_lt (lowest w) v) (dec_lt v (lowest w))
  where
    never : true ≡ false → ⊥
    never e = let z : ◌≡◌ {A = ℕ} 0 1 = cc in omega arith

    go : Dec (lowest w < v) → Dec (v < lowest w) → lowest w ≡ v
    go (yes l) d = absurd (never (sym (lowest_has w p f) ∙ below (lowest w) l))
    go (no a) (yes l) = absurd (never (sym one ∙ lowest_first w v l))
    go (no a) (no b) = omega (arith, a, b)

-- the walk is at a row of the table, and has found nothing yet
pub record AtRow (ws : List ℕ) (rows node row : ℕ) : Type 0 where
  pub inside : node * rows + row < length ws
  pub ahead : Ahead ws (node * rows + row)

pub row_inside : (ws : List ℕ) (nodes rows node row : ℕ) → length ws ≡ nodes * rows → node < nodes → row < rows → node * rows + row < length ws
row_inside ws nodes rows node row long h l = omega (arith, digits_lt {q = node} {m = nodes} {r = row} {c = rows} h l)

module _ {ws : List ℕ} {rows node row : ℕ} (at : AtRow ws rows node row) where
  -- a word that is 0 is passed
  pub row_passed : get_or ws (node * rows + row) 0 ≡ 0 → Ahead ws (node * rows + (row + 1))
  row_passed z =
      let e : node * rows + (row + 1) ≡ node * rows + row + 1 = omega arith in
      ap (λ (i : ℕ). first_between i (length ws) ws) e ∙ sym (first_next ws (node * rows + row) (length ws) at.inside at.inside z) ∙ at.ahead

  -- in a word that is not 0 the first bit that is set is found
  pub bit_found : (v : ℕ) → get_or ws (node * rows + row) 0 < 2 ^ 32 → (get_or ws (node * rows + row) 0 ≡ 0 → ⊥)
      → ((k : ℕ) → k < v → has (get_or ws (node * rows + row) 0) k ≡ false) → has (get_or ws (node * rows + row) 0) v ≡ true
      → found_at (node * rows + row) v ≡ first_in ws
  bit_found v fits ne below one =
      ap (λ (b : ℕ). found_at (node * rows + row) b) (sym (lowest_is (get_or ws (node * rows + row) 0) v (omega (arith, ne)) fits below one))
      ∙ sym (first_here ws (node * rows + row) (length ws) at.inside at.inside ne) ∙ at.ahead

-- after its last row a node is passed
pub node_passed : (ws : List ℕ) (rows node row : ℕ) → row ≤ rows → rows ≤ row → Ahead ws (node * rows + row) → Ahead ws ((node + 1) * rows)
node_passed ws rows node row h l ahead =
    let e : (node + 1) * rows ≡ node * rows + row = ap (λ (k : ℕ). k * rows) (add-one node) ∙ omega (arith, suc-mul node rows) in
    ap (λ (i : ℕ). first_between i (length ws) ws) e ∙ ahead

-- past the last node there is nothing
pub all_passed : (ws : List ℕ) (nodes rows node : ℕ) → length ws ≡ nodes * rows → node ≤ nodes → nodes ≤ node → Ahead ws (node * rows) → None ≡ first_in ws
all_passed ws nodes rows node long h l ahead =
    let e : node ≡ nodes = omega arith in
    sym (first_end ws (node * rows) (length ws) (omega (arith, ap (λ (k : ℕ). k * rows) e))) ∙ ahead
