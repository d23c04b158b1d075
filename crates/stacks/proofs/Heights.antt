-- The height of a number's stack, a turn of a loop at a time, and the buffer that the stack is written into, from the top down.
use Prim.Native.Nat.{ℕ, zero, suc, ◌+◌, ◌-◌, ◌/◌, ◌%◌, ◌≤◌, ◌<◌, zero-le}
use native.Mathlib.Omega.{arith}
use mathlib.Core.Path.{◌≡◌, refl, ap, ◌∙◌}
use mathlib.Core.List.{List, ◌∷◌, ◌++◌, append_assoc}
use lib.ListN.{length, get_or, take, set}
use lib.Seq.{take-suc, set_at, length-take-le}
use Rattle.stacks.specs.Stacks.{count, height, stack_under}

height_suc : (p k n : ℕ) → 1 ≤ n → height p (suc k) n ≡ suc (height p k ((n - 1) / p))
height_suc p k zero h = omega arith
height_suc p k (suc n) h = ap (λ (m : ℕ). suc (height p k (m / p))) (omega arith)

pub height_turn : (p h i n : ℕ) → i < h → 1 ≤ n → height p (h - i) n ≡ suc (height p (h - (i + 1)) ((n - 1) / p))
height_turn p h i n more some =
    let e : h - i ≡ suc (h - (i + 1)) = omega arith in
    ap (λ (k : ℕ). height p k n) e ∙ height_suc p (h - (i + 1)) n some

pub height_le : (p h n : ℕ) → height p h n ≤ h
height_le p zero n = zero-le
height_le p (suc h) zero = zero-le
height_le p (suc h) (suc n) = omega (arith, height_le p h (n / p))

pub height_some : (p h n : ℕ) → 1 ≤ n → n ≤ count p h → 1 ≤ height p h n
height_some p zero n some le = omega arith
height_some p (suc h) zero some le = omega arith
height_some p (suc h) (suc n) some le = omega arith

-- a bound as high as the stack does as well as a higher one
pub height_height : (p h n : ℕ) → height p (height p h n) n ≡ height p h n
height_height p zero n = refl
height_height p (suc h) zero = refl
height_height p (suc h) (suc n) = ap suc (height_height p h (n / p))

pub stack_under_height : (p h n : ℕ) (s : List ℕ) → stack_under p (height p h n) n s ≡ stack_under p h n s
stack_under_height p zero n s = refl
stack_under_height p (suc h) zero s = refl
stack_under_height p (suc h) (suc n) s = stack_under_height p h (n / p) (n % p ∷ s)

-- where i protocols are left of n, n is a number and one fewer is left of its rest
pub height_pos : (p i n : ℕ) → height p i n ≡ i → 1 ≤ i → 1 ≤ n
height_pos p zero n e some = absurd (omega arith)
height_pos p (suc i) zero e some = absurd (omega arith)
height_pos p (suc i) (suc n) e some = omega arith

pub height_down : (p i n : ℕ) → height p i n ≡ i → 1 ≤ i → height p (i - 1) ((n - 1) / p) ≡ i - 1
height_down p zero n e some = absurd (omega arith)
height_down p (suc i) zero e some = absurd (omega arith)
height_down p (suc i) (suc n) e some =
    let ei : suc i - 1 ≡ i = omega arith in
    let en : suc n - 1 ≡ n = omega arith in
    rw (ei, en) (omega arith)

pub stack_under_down : (p i n : ℕ) (s : List ℕ) → 1 ≤ i → 1 ≤ n → stack_under p i n s ≡ stack_under p (i - 1) ((n - 1) / p) ((n - 1) % p ∷ s)
stack_under_down p zero n s some one = absurd (omega arith)
stack_under_down p (suc i) zero s some one = absurd (omega arith)
stack_under_down p (suc i) (suc n) s some one =
    let ei : suc i - 1 ≡ i = omega arith in
    let en : suc n - 1 ≡ n = omega arith in
    rw (ei, en)

-- the buffer: what is kept, then what is written
pub set_down : (out rest : List ℕ) (i v : ℕ) → 1 ≤ i → i ≤ length out → set (take i out ++ rest) (i - 1) v ≡ take (i - 1) out ++ (v ∷ rest)
set_down out rest zero v some le = absurd (omega arith)
set_down out rest (suc j) v some le =
    let e : suc j - 1 ≡ j = omega arith in
    rw (e, take-suc out j 0 le, append_assoc) (set_at (take j out) (get_or out j 0) rest v j (length-take-le j out (omega arith)))
