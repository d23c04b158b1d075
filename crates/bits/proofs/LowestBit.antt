-- Laws of the lowest set bit: it is the library's count of trailing zeros, and the first test that passes.
use mathlib.Core.Path.{◌≡◌, refl, sym, ap, ◌∙◌}
use mathlib.Core.Bool.{Bool, true, false, cond}
use mathlib.Core.Logic.{by_cases}
use Prim.Native.Nat.{ℕ, zero, suc, ◌+◌, ◌/◌, ◌^◌, ◌<◌}
use native.Mathlib.Nat.{add-zero, zero-add, div-one}
use native.Mathlib.Decide.{dec_lt}
use native.Mathlib.Numerals.{add-one}
use native.Mathlib.Omega.{arith}
use lib.Count.{count_trailing_zeros, under}
use lib.Pow.{shr-shr}
use Rattle.lists.specs.Lists.{first_from, first_below}
use Rattle.lists.proofs.Tests.{First, first_below_lem}
use Rattle.bits.specs.Bits.{bit, has, lowest}
use Rattle.bits.proofs.Bits.{bit_lt}
use Rattle.bits.proofs.Laws.{has_of_one, has_of_zero, no_bit}

-- ---- the search by tests is the count of zeros
halved : (w v : ℕ) → w / 2 ^ suc v ≡ w / 2 ^ v / 2
halved w v = sym (shr-shr w v 1 ∙ ap (λ (n : ℕ). w / 2 ^ n) (add-one v))

searched : (d v w : ℕ) → first_from v d (has w) ≡ v + count_trailing_zeros d (w / 2 ^ v)
unfolding count_trailing_zeros
searched zero v w = sym (add-zero v)
searched (suc d) v w = go (searched d (suc v) w ∙ ap (λ (x : ℕ). suc v + count_trailing_zeros d x) (halved w v)) (bit w v) refl
  where
    go : first_from (suc v) d (has w) ≡ suc v + count_trailing_zeros d (w / 2 ^ v / 2) → (b : ℕ) → bit w v ≡ b
        → cond (has w v) v (first_from (suc v) d (has w)) ≡ v + under b (count_trailing_zeros d (w / 2 ^ v / 2))
    go rest zero e = ap (λ (t : Bool). cond t v (first_from (suc v) d (has w))) (has_of_zero w v e) ∙ omega arith
    go rest (suc b) e =
        let one : bit w v ≡ 1 = omega (arith, bit_lt w v) in
        ap (λ (t : Bool). cond t v (first_from (suc v) d (has w))) (has_of_one w v one) ∙ sym (add-zero v)

pub lowest_is_library : (w : ℕ) → lowest w ≡ count_trailing_zeros 32 w
unfolding lowest first_below
lowest_is_library w = searched 32 0 w ∙ zero-add (count_trailing_zeros 32 (w / 2 ^ 0)) ∙ ap (λ (x : ℕ). count_trailing_zeros 32 x) (div-one w)

-- ---- what callers use
first : (w : ℕ) → First 0 32 (has w) (lowest w)
unfolding lowest
first w = first_below_lem 32 (has w)

pub lowest_first : (w k : ℕ) → k < lowest w → has w k ≡ false
lowest_first w k h = (first w).before k (omega arith) h

pub lowest_below : (w : ℕ) → 0 < w → w < 2 ^ 32 → lowest w < 32
lowest_below w p h = by_cases (dec_lt (lowest w) 32) (λ l. l) (λ n. absurd (omega (arith, no_bit w (λ v b. lowest_first w v (omega arith)) h)))

pub lowest_has : (w : ℕ) → 0 < w → w < 2 ^ 32 → has w (lowest w) ≡ true
lowest_has w p h = (first w).passes (lowest_below w p h)
