-- Laws of places: the rows of one node lie side by side, and in them the blocks of its destinations.
use mathlib.Core.Path.{◌≡◌, refl, sym, ap, ◌∙◌}
use Prim.Native.Nat.{ℕ, ◌+◌, ◌*◌, ◌/◌, ◌%◌, ◌≤◌, ◌<◌}
use native.Mathlib.Nat.{suc-mul, mul_assoc, mul_comm, add-mul, mul-le-mul_right, mod-lt, div-add-mod', div-lt_iff_lt-mul, div-eq_of_lt-le, div-div-eq-div-mul}
use native.Mathlib.Omega.{arith}
use lib.Arith.{digits_lt}

-- ---- blocks of the size s
pub block_of : (s b i : ℕ) → b * s ≤ i → i < b * s + s → i / s ≡ b
block_of s b i l h = div-eq_of_lt-le s l (omega (arith, add-mul b 1 s))

pub block_from : (s i : ℕ) → i / s * s ≤ i
block_from s i = omega (arith, div-add-mod' i s)

pub block_to : (s i : ℕ) → 0 < s → i < i / s * s + s
block_to s i p = omega (arith, div-add-mod' i s, mod-lt i p)

-- a block below k ends among the rows of k blocks
pub block_fits : (s b k : ℕ) → b < k → b * s + s ≤ k * s
block_fits s b k h = omega (arith, suc-mul b s, mul-le-mul_right s h)

module _ (n s u : ℕ) where
  -- ---- the rows of the node u
  pub node_of : (i : ℕ) → u * (n * s) ≤ i → i < u * (n * s) + n * s → i / s / n ≡ u
  node_of i l h = div-div-eq-div-mul i s n ∙ ap (λ (m : ℕ). i / m) (mul_comm s n) ∙ block_of (n * s) u i l h

  -- ---- the block of the destination d among them
  module _ (d : ℕ) (below : d < n) where
    pub block_start : (u * n + d) * s ≡ u * (n * s) + d * s
    block_start = omega (arith, add-mul (u * n) d s, mul_assoc u n s)

    pub block_end : (u * n + d) * s + s ≤ u * (n * s) + n * s
    block_end = omega (arith, block_start, block_fits s d n below)

  -- the two digits of a row's block tell the block
  pub block_here : (d i : ℕ) → i / s / n ≡ u → i / s % n ≡ d → i / s ≡ u * n + d
  block_here d i e f = omega (arith, sym (div-add-mod' (i / s) n), ap (λ (q : ℕ). q * n) e)

  -- a row of the node before the block of d is one of an earlier destination
  pub destination_before : (d i : ℕ) → 0 < s → i / s / n ≡ u → i < (u * n + d) * s → i / s % n < d
  destination_before d i p e h =
      let b : i / s < u * n + d = (div-lt_iff_lt-mul p).1 h in
      omega (arith, block_here (i / s % n) i e refl)

-- there are so few blocks that their numbers fit a machine word
pub few_blocks : (n u d : ℕ) → n ≤ 32 → u < n → d < n → u * n + d < 1024
few_blocks n u d fits h l = omega (arith, digits_lt {q = u} {m = n} {r = d} {c = n} h l, mul-le-mul_right n fits)
