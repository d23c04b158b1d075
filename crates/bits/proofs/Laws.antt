-- Laws of waiting words by the test `has`: of a bit cleared, of words joined, and that the 32 tests fix the word.
use mathlib.Core.Path.{◌≡◌, refl, sym, ap, ◌∙◌}
use mathlib.Core.Bool.{Bool, true, false, ◌||◌}
use Prim.Native.Nat.{ℕ, zero, suc, ◌-◌, ◌*◌, ◌^◌, ◌≤◌, ◌<◌}
use native.Mathlib.Nat.{zero-mul}
use native.Mathlib.Omega.{arith}
use borrow.Author.Tests.{eqb-true, eqb-false, eq-eqb, ne_eqb}
use lib.Bits.{bit_or, or_lt}
use lib.Dec.{eqb}
use Rattle.bits.specs.Bits.{bit, has, without, with_all}
use Rattle.bits.proofs.Bits.{bit_lt, bit_or_lem, bit_of_zero, bit_high, clear_here, clear_there, same_bits}

-- ---- the test and the bit
pub has_of_one : (w v : ℕ) → bit w v ≡ 1 → has w v ≡ true
unfolding has
has_of_one w v e = eq-eqb (bit w v) 1 e

pub has_of_zero : (w v : ℕ) → bit w v ≡ 0 → has w v ≡ false
unfolding has
has_of_zero w v e = ne_eqb (bit w v) 1 (λ one. omega arith)

pub one_of_has : (w v : ℕ) → has w v ≡ true → bit w v ≡ 1
unfolding has
one_of_has w v e = eqb-true (bit w v) 1 e

pub zero_of_has : (w v : ℕ) → has w v ≡ false → bit w v ≡ 0
unfolding has
zero_of_has w v e = omega (arith, eqb-false (bit w v) 1 e, bit_lt w v)

-- equal tests are equal bits
pub bits_agree : (w u v : ℕ) → has w v ≡ has u v → bit w v ≡ bit u v
bits_agree w u v e = go (has u v) refl
  where
    go : (t : Bool) → has u v ≡ t → bit w v ≡ bit u v
    go true h = one_of_has w v (e ∙ h) ∙ sym (one_of_has u v h)
    go false h = zero_of_has w v (e ∙ h) ∙ sym (zero_of_has u v h)

pub tests_agree : (w u v : ℕ) → bit w v ≡ bit u v → has w v ≡ has u v
unfolding has
tests_agree w u v e = ap (λ (b : ℕ). eqb b 1) e

pub has_zero : (v : ℕ) → has 0 v ≡ false
has_zero v = has_of_zero 0 v (bit_of_zero v)

pub high_bit : (w v : ℕ) → w < 2 ^ 32 → 32 ≤ v → has w v ≡ false
high_bit w v h l = has_of_zero w v (bit_high 32 w v h l)

-- ---- a bit cleared
pub has_without_here : (w v : ℕ) → has (without w v) v ≡ false
unfolding without
has_without_here w v = has_of_zero (without w v) v (clear_here w v)

pub has_without_there : (w v k : ℕ) → (k ≡ v → ⊥) → has (without w v) k ≡ has w k
unfolding without
has_without_there w v k ne = tests_agree (without w v) w k (clear_there w v k ne)

pub without_le : (w v : ℕ) → without w v ≤ w
unfolding without
without_le w v = omega arith

pub without_fits : (w v : ℕ) → w < 2 ^ 32 → without w v < 2 ^ 32
without_fits w v h = omega (arith, without_le w v)

pub without_above : (w v : ℕ) → w < 2 ^ 32 → 32 ≤ v → without w v ≡ w
unfolding without
without_above w v h l = ap (λ (b : ℕ). w - b * 2 ^ v) (bit_high 32 w v h l) ∙ omega (arith, zero-mul (2 ^ v))

-- ---- words joined
or_tests : (a b : ℕ) → a < 2 → b < 2 → eqb (bit_or a b) 1 ≡ (eqb a 1 || eqb b 1)
or_tests zero zero h l = refl
or_tests zero (suc zero) h l = refl
or_tests (suc zero) zero h l = refl
or_tests (suc zero) (suc zero) h l = refl
or_tests zero (suc (suc b)) h l = absurd (omega arith)
or_tests (suc zero) (suc (suc b)) h l = absurd (omega arith)
or_tests (suc (suc a)) b h l = absurd (omega arith)

pub has_with_all : (w m v : ℕ) → has (with_all w m) v ≡ (has w v || has m v)
unfolding has with_all
has_with_all w m v = ap (λ (b : ℕ). eqb b 1) (bit_or_lem w m v) ∙ or_tests (bit w v) (bit m v) (bit_lt w v) (bit_lt m v)

pub with_all_fits : (w m : ℕ) → w < 2 ^ 32 → m < 2 ^ 32 → with_all w m < 2 ^ 32
unfolding with_all
with_all_fits w m h l = or_lt 32 w m h l

-- ---- the tests fix the word
pub words_equal : (w u : ℕ) → w < 2 ^ 32 → u < 2 ^ 32 → ((v : ℕ) → v < 32 → has w v ≡ has u v) → w ≡ u
words_equal w u h l e = same_bits 32 w u h l (λ v m. bits_agree w u v (e v m))

pub no_bit : (w : ℕ) → ((v : ℕ) → v < 32 → has w v ≡ false) → w < 2 ^ 32 → w ≡ 0
no_bit w e h = words_equal w 0 h (omega arith) (λ v m. e v m ∙ sym (has_zero v))
