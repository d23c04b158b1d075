-- Laws of single bits, as numbers: of the masks bit by bit, of 2 ^ v, and of one bit that is set or cleared.
use mathlib.Core.Path.{◌≡◌, refl, sym, ap, ◌∙◌}
use Prim.Native.Nat.{ℕ, zero, suc, ◌+◌, ◌-◌, ◌*◌, ◌/◌, ◌%◌, ◌^◌, ◌≤◌, ◌<◌, suc-le-suc}
use native.Mathlib.Nat.{mod-lt, one-mul, zero-mul, zero-div, div-one, div-eq_of_lt, pow-suc, zero-lt-suc}
use native.Mathlib.Numerals.{one-add}
use native.Mathlib.Decide.{dec_lt}
use native.Mathlib.Omega.{arith}
use lib.Pow.{pow-lt, pow_mono, pow-add, shl-shr, shl_exact, shr-shr}
use lib.Bits.{bit_and, bit_or, bit_xor, and_shr, or_shr, xor_shr, and_mod, or_mod, xor_mod, and_le_l, and_le_r, or_add_and, and_high, and_zero_r, or_zero_r, xor_zero_r, xor_add_and, shifted_even}
use Rattle.bits.specs.Bits.{bit}

pub bit_lt : (w v : ℕ) → bit w v < 2
bit_lt w v = let h = mod-lt (w / 2 ^ v) (zero-lt-suc 1) in h

pub bit_zero : (w : ℕ) → bit w 0 ≡ w % 2
bit_zero w = ap (λ (x : ℕ). x % 2) (div-one w)

pub bit_suc : (w v : ℕ) → bit w (suc v) ≡ bit (w / 2) v
bit_suc w v = sym (ap (λ (x : ℕ). x % 2) (shr-shr w 1 v ∙ ap (λ (n : ℕ). w / 2 ^ n) (one-add v)))

pub bit_of_zero : (v : ℕ) → bit 0 v ≡ 0
bit_of_zero v = ap (λ (x : ℕ). x % 2) (zero-div (2 ^ v))

-- a word of k bits has none at k or above
pub bit_high : (k w v : ℕ) → w < 2 ^ k → k ≤ v → bit w v ≡ 0
bit_high k w v h l =
    let below : w < 2 ^ v = omega (arith, pow_mono l) in
    ap (λ (x : ℕ). x % 2) (div-eq_of_lt below)

-- ---- the masks, bit by bit
bit_and_lem : (a b v : ℕ) → bit (bit_and a b) v ≡ bit_and (bit a v) (bit b v)
bit_and_lem a b v = ap (λ (x : ℕ). x % 2) (and_shr a b v) ∙ and_mod (a / 2 ^ v) (b / 2 ^ v) 1

pub bit_or_lem : (a b v : ℕ) → bit (bit_or a b) v ≡ bit_or (bit a v) (bit b v)
bit_or_lem a b v = ap (λ (x : ℕ). x % 2) (or_shr a b v) ∙ or_mod (a / 2 ^ v) (b / 2 ^ v) 1

bit_xor_lem : (a b v : ℕ) → bit (bit_xor a b) v ≡ bit_xor (bit a v) (bit b v)
bit_xor_lem a b v = ap (λ (x : ℕ). x % 2) (xor_shr a b v) ∙ xor_mod (a / 2 ^ v) (b / 2 ^ v) 1

-- an OR is 0 only where both sides are
pub zero_of_or : (a b : ℕ) → bit_or a b ≡ 0 → (a ≡ 0) × (b ≡ 0)
zero_of_or a b e = (omega (arith, or_add_and a b, and_le_r a b), omega (arith, or_add_and a b, and_le_l a b))

-- ---- 2 ^ v: what `1u32 << v` computes to, and its bits
pub shl_one : (v : ℕ) → v < 32 → (1 * 2 ^ v) % 2 ^ 32 ≡ 2 ^ v
shl_one v h = shl_exact 1 v 32 (omega arith) (omega arith) ∙ one-mul (2 ^ v)

pow_bit : (v : ℕ) → bit (2 ^ v) v ≡ 1
pow_bit v = ap (λ (x : ℕ). x / 2 ^ v % 2) (sym (one-mul (2 ^ v))) ∙ ap (λ (x : ℕ). x % 2) (shl-shr 1 v)

-- below bit v the quotient is a multiple of 2
pow_below : (j k : ℕ) → bit (2 ^ (suc j + k)) k ≡ 0
pow_below j k =
    ap (λ (x : ℕ). x / 2 ^ k % 2) (pow-add 2 (suc j) k) ∙ ap (λ (x : ℕ). x % 2) (shl-shr (2 ^ suc j) k)
    ∙ ap (λ (x : ℕ). x % 2) (sym (one-mul (2 ^ suc j))) ∙ shifted_even 1 j

pow_above : (v k : ℕ) → v < k → bit (2 ^ v) k ≡ 0
pow_above v k h = ap (λ (x : ℕ). x % 2) (div-eq_of_lt (pow-lt h))

pow_other : (v k : ℕ) → (k ≡ v → ⊥) → bit (2 ^ v) k ≡ 0
pow_other v k ne = go (dec_lt k v)
  where
    go : Dec (k < v) → bit (2 ^ v) k ≡ 0
    go (yes h) =
        let e : v ≡ suc (v - suc k) + k = omega arith in
        ap (λ (n : ℕ). bit (2 ^ n) k) e ∙ pow_below (v - suc k) k
    go (no h) = pow_above v k (omega (arith, ne, h))

-- ---- one bit set
or_one : (b : ℕ) → b < 2 → bit_or b 1 ≡ 1
or_one zero h = refl
or_one (suc zero) h = refl
or_one (suc (suc b)) h = absurd (omega arith)

pub set_here : (w v : ℕ) → bit (bit_or w (2 ^ v)) v ≡ 1
set_here w v = bit_or_lem w (2 ^ v) v ∙ ap (λ (x : ℕ). bit_or (bit w v) x) (pow_bit v) ∙ or_one (bit w v) (bit_lt w v)

pub set_there : (w v k : ℕ) → (k ≡ v → ⊥) → bit (bit_or w (2 ^ v)) k ≡ bit w k
set_there w v k ne = bit_or_lem w (2 ^ v) k ∙ ap (λ (x : ℕ). bit_or (bit w k) x) (pow_other v k ne) ∙ or_zero_r (bit w k)

-- ---- one bit cleared: `w & (1 << v)` is the bit times 2 ^ v, and taking it off is an exclusive or
pub and_bit : (w v : ℕ) → bit_and w (2 ^ v) ≡ bit w v * 2 ^ v
and_bit w v =
    let e : 2 ^ v ≡ 2 ^ (1 + v) - 2 ^ v = omega (arith, pow-add 2 1 v) in
    ap (λ (m : ℕ). bit_and w m) e ∙ and_high w 1 v

-- a bit of the word, masked by the word, is itself
kept : (w v b : ℕ) → bit w v ≡ b → b < 2 → bit_and w (b * 2 ^ v) ≡ b * 2 ^ v
kept w v zero e h = ap (λ (x : ℕ). bit_and w x) (zero-mul (2 ^ v)) ∙ and_zero_r w ∙ sym (zero-mul (2 ^ v))
kept w v (suc zero) e h = ap (λ (x : ℕ). bit_and w x) (one-mul (2 ^ v)) ∙ and_bit w v ∙ ap (λ (x : ℕ). x * 2 ^ v) e
kept w v (suc (suc b)) e h = absurd (omega arith)

sub_xor : (w v : ℕ) → w - bit w v * 2 ^ v ≡ bit_xor w (bit w v * 2 ^ v)
sub_xor w v = omega (arith, xor_add_and w (bit w v * 2 ^ v), kept w v (bit w v) refl (bit_lt w v))

xor_self_bit : (b : ℕ) → b < 2 → bit_xor b (bit_and b 1) ≡ 0
xor_self_bit zero h = refl
xor_self_bit (suc zero) h = refl
xor_self_bit (suc (suc b)) h = absurd (omega arith)

cleared : (w v k : ℕ) → bit (w - bit w v * 2 ^ v) k ≡ bit_xor (bit w k) (bit_and (bit w k) (bit (2 ^ v) k))
cleared w v k =
    ap (λ (x : ℕ). bit x k) (sub_xor w v) ∙ bit_xor_lem w (bit w v * 2 ^ v) k
    ∙ ap (λ (x : ℕ). bit_xor (bit w k) x) (ap (λ (x : ℕ). bit x k) (sym (and_bit w v)) ∙ bit_and_lem w (2 ^ v) k)

pub clear_here : (w v : ℕ) → bit (w - bit w v * 2 ^ v) v ≡ 0
clear_here w v =
    cleared w v v ∙ ap (λ (x : ℕ). bit_xor (bit w v) (bit_and (bit w v) x)) (pow_bit v) ∙ xor_self_bit (bit w v) (bit_lt w v)

pub clear_there : (w v k : ℕ) → (k ≡ v → ⊥) → bit (w - bit w v * 2 ^ v) k ≡ bit w k
clear_there w v k ne =
    cleared w v k
    ∙ ap (λ (x : ℕ). bit_xor (bit w k) x) (ap (λ (x : ℕ). bit_and (bit w k) x) (pow_other v k ne) ∙ and_zero_r (bit w k))
    ∙ xor_zero_r (bit w k)

-- ---- halving
pub half_below : (d q : ℕ) → q < 2 ^ suc d → q / 2 < 2 ^ d
half_below d q h = omega (arith, pow-suc 2 d)

-- words of d bits with the same bits are the same
pub same_bits : (d w u : ℕ) → w < 2 ^ d → u < 2 ^ d → ((v : ℕ) → v < d → bit w v ≡ bit u v) → w ≡ u
same_bits zero w u h l e = omega arith
same_bits (suc d) w u h l e =
    let half : w / 2 ≡ u / 2 =
    same_bits d (w / 2) (u / 2) (half_below d w h) (half_below d u l) (λ v m. sym (bit_suc w v) ∙ e (suc v) (suc-le-suc m) ∙ bit_suc u v) in
    let low : w % 2 ≡ u % 2 = sym (bit_zero w) ∙ e 0 (zero-lt-suc d) ∙ bit_zero u in
    omega arith
