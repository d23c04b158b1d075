-- How many stacks there are: S grows with p and with h, and fits.
use Prim.Native.Nat.{ℕ, zero, suc, ◌+◌, ◌*◌, ◌^◌, ◌≤◌, ◌<◌, zero-le}
use native.Mathlib.Nat.{pow-suc, pow-zero, pow-succ', one-mul, mul-zero, mul-add, mul-le-mul_left, pow-le-pow_left, le_trans}
use native.Mathlib.Numerals.{add-one}
use native.Mathlib.Omega.{arith}
use mathlib.Core.Path.{◌≡◌, ap, ◌∙◌}
use Rattle.stacks.specs.Stacks.{count}

-- p stacks of height 1, and p more for each stack that is one lower
pub count_suc : (p h : ℕ) → count p (suc h) ≡ p * count p h + p
count_suc p zero = omega (arith, pow-suc p 0 ∙ ap (λ (x : ℕ). x * p) (pow-zero p) ∙ one-mul p, mul-zero p)
count_suc p (suc h) = omega (arith, count_suc p h, pow-succ' p (suc h), mul-add p (count p h) (p ^ suc h))

pub count_mono : (p i j : ℕ) → i ≤ j → count p i ≤ count p j
count_mono p zero j h = zero-le
count_mono p (suc i) zero h = omega arith
count_mono p (suc i) (suc j) h =
    omega (arith, count_suc p i, count_suc p j, mul-le-mul_left p (count_mono p i j (omega arith)))

pub count_small : (p h : ℕ) → p ≤ 8 → count p h ≤ count 8 h
count_small p zero le = zero-le
count_small p (suc h) le = omega (arith, count_small p h le, pow-le-pow_left le (suc h))

-- 8 + 8 ^ 2 + .. + 8 ^ 12 is the largest
pub count_fits : (p h : ℕ) → p ≤ 8 → h ≤ 12 → count p h ≤ 78536544840
count_fits p h few low = le_trans (count_small p h few) (count_mono 8 h 12 low)

-- a number stays within the stacks of its height
pub step_fits : (p n i q : ℕ) → n ≤ count p i → q < p → p * n + q + 1 ≤ count p (i + 1)
step_fits p n i q h small = rw (add-one i) (omega (arith, count_suc p i, mul-le-mul_left p h))

pub next_fits : (p n i q : ℕ) → p ≤ 8 → i < 12 → n ≤ count p i → q < p → p * n + q + 1 ≤ 78536544840
next_fits p n i q few low le small = le_trans (step_fits p n i q le small) (count_fits p (i + 1) few (omega arith))

-- protocols have numbers of stacks of height 1
pub count_some : (p h : ℕ) → 1 ≤ h → p ≤ count p h
count_some p zero high = absurd (omega arith)
count_some p (suc h) high = omega (arith, count_suc p h)
