-- Laws of the count of set bits: its bound, that it is the library's, and when it is 0.
use mathlib.Core.Path.{◌≡◌, sym, ap, ◌∙◌}
use mathlib.Core.Bool.{false}
use Prim.Native.Nat.{ℕ, zero, suc, ◌+◌, ◌/◌, ◌%◌, ◌^◌, ◌≤◌, ◌<◌}
use native.Mathlib.Omega.{arith}
use lib.Count.{ones, ones_step}
use Rattle.lists.specs.Lists.{one, how_many}
use Rattle.lists.proofs.Tests.{bool_cases}
use Rattle.lists.proofs.Counts.{how_many_le, how_many_none, how_many_zero}
use Rattle.bits.specs.Bits.{bit, has, ones_of}
use Rattle.bits.proofs.Bits.{bit_zero, bit_suc, half_below}
use Rattle.bits.proofs.Laws.{one_of_has, zero_of_has, has_zero}

-- ---- counted from the lowest bit, as the library does
is_bit : (w v : ℕ) → one (has w v) ≡ bit w v
is_bit w v = bool_cases (has w v) (λ e. ap one e ∙ sym (one_of_has w v e)) (λ e. ap one e ∙ sym (zero_of_has w v e))

from_low : (k w : ℕ) → how_many (suc k) (has w) ≡ w % 2 + how_many k (has (w / 2))
unfolding how_many
from_low zero w = omega (arith, is_bit w 0, bit_zero w)
from_low (suc k) w = omega (arith, from_low k w, is_bit w (suc k), is_bit (w / 2) k, bit_suc w k)

is_library : (k w : ℕ) → w < 2 ^ k → how_many k (has w) ≡ ones w
unfolding how_many ones
is_library zero w h = let e : w ≡ 0 = omega arith in sym (ap ones e)
is_library (suc k) w h = from_low k w ∙ ap (λ (x : ℕ). w % 2 + x) (is_library k (w / 2) (half_below k w h)) ∙ sym (ones_step w)

pub ones_is_library : (w : ℕ) → w < 2 ^ 32 → ones_of w ≡ ones w
unfolding ones_of
ones_is_library w h = is_library 32 w h

-- ---- the bound, and none
pub ones_le : (w : ℕ) → ones_of w ≤ 32
unfolding ones_of
ones_le w = how_many_le 32 (has w)

pub ones_zero : ones_of 0 ≡ 0
unfolding ones_of
ones_zero = how_many_none 32 (has 0) (λ v b. has_zero v)

pub ones_none : (w : ℕ) → ones_of w ≡ 0 → (v : ℕ) → v < 32 → has w v ≡ false
unfolding ones_of
ones_none w e v b = how_many_zero 32 (has w) e v b
