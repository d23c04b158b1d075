-- Laws of words that are built bit by bit: one bit set, and the word of 32 tests.
use mathlib.Core.Path.{◌≡◌, refl, sym, ap, ap₂, ◌∙◌, subst}
use mathlib.Core.Bool.{Bool, true, false, cond, ◌&&◌}
use Prim.Native.Nat.{ℕ, zero, suc, ◌+◌, ◌^◌, ◌≤◌, ◌<◌}
use native.Mathlib.Nat.{add-zero, add_comm, one-mul, pow-suc}
use native.Mathlib.Decide.{dec_lt, ℕ_discrete}
use native.Mathlib.Omega.{arith}
use borrow.Author.Tests.{lt-ltb, le-ltb}
use lib.Bits.{bit_or, or_shifted_r}
use lib.Dec.{ltb}
use Rattle.bits.specs.Bits.{has, with_all, with_one, word_of}
use Rattle.bits.proofs.Bits.{set_here, set_there}
use Rattle.bits.proofs.Laws.{has_of_one, has_zero, tests_agree}

-- ---- one bit set
pub with_one_below : (w v : ℕ) → v < 32 → with_one w v ≡ with_all w (2 ^ v)
unfolding with_one
with_one_below w v h = ap (λ (t : Bool). cond t (with_all w (2 ^ v)) w) (lt-ltb v 32 h)

pub with_one_above : (w v : ℕ) → 32 ≤ v → with_one w v ≡ w
unfolding with_one
with_one_above w v h = ap (λ (t : Bool). cond t (with_all w (2 ^ v)) w) (le-ltb v 32 h)

pub has_with_one_here : (w v : ℕ) → v < 32 → has (with_one w v) v ≡ true
unfolding with_all
has_with_one_here w v h = ap (λ (x : ℕ). has x v) (with_one_below w v h) ∙ has_of_one (with_all w (2 ^ v)) v (set_here w v)

pub has_with_one_there : (w v k : ℕ) → (k ≡ v → ⊥) → has (with_one w v) k ≡ has w k
unfolding with_all
has_with_one_there w v k ne = go (dec_lt v 32)
  where
    go : Dec (v < 32) → has (with_one w v) k ≡ has w k
    go (yes h) = ap (λ (x : ℕ). has x k) (with_one_below w v h) ∙ tests_agree (with_all w (2 ^ v)) w k (set_there w v k ne)
    go (no h) = ap (λ (x : ℕ). has x k) (with_one_above w v (omega (arith, h)))

-- ---- the word of the tests below k
pub word_of_fits : (k : ℕ) (f : ℕ → Bool) → word_of k f < 2 ^ k
unfolding word_of
word_of_fits zero f = omega arith
word_of_fits (suc k) f = go (f k) (word_of_fits k f)
  where
    go : (t : Bool) → word_of k f < 2 ^ k → word_of k f + cond t (2 ^ k) 0 < 2 ^ suc k
    go true h = omega (arith, pow-suc 2 k)
    go false h = omega (arith, pow-suc 2 k)

-- a bit above a word is added or set: the same
set_above : (w k : ℕ) → w < 2 ^ k → w + 2 ^ k ≡ with_all w (2 ^ k)
unfolding with_all
set_above w k h =
    let e : 2 ^ k + w ≡ bit_or w (2 ^ k) = ap (λ (x : ℕ). x + w) (sym (one-mul (2 ^ k))) ∙ sym (or_shifted_r 1 k w h)
    ∙ ap (λ (x : ℕ). bit_or w x) (one-mul (2 ^ k)) in
    add_comm w (2 ^ k) ∙ e

-- one test more is one step of `with_one`, where the test passes
pub word_of_step : (k : ℕ) (f : ℕ → Bool) → k < 32 → word_of (suc k) f ≡ cond (f k) (with_one (word_of k f) k) (word_of k f)
unfolding word_of
word_of_step k f h = go (f k)
  where
    go : (t : Bool) → word_of k f + cond t (2 ^ k) 0 ≡ cond t (with_one (word_of k f) k) (word_of k f)
    go true = set_above (word_of k f) k (word_of_fits k f) ∙ sym (with_one_below (word_of k f) k h)
    go false = add-zero (word_of k f)

-- the same step by the test's value, for a loop that has it
pub word_of_set : (k : ℕ) (f : ℕ → Bool) → k < 32 → f k ≡ true → word_of (suc k) f ≡ with_one (word_of k f) k
word_of_set k f h e = word_of_step k f h ∙ ap (λ (t : Bool). cond t (with_one (word_of k f) k) (word_of k f)) e

pub word_of_skip : (k : ℕ) (f : ℕ → Bool) → f k ≡ false → word_of (suc k) f ≡ word_of k f
unfolding word_of
word_of_skip k f e = ap (λ (t : Bool). word_of k f + cond t (2 ^ k) 0) e ∙ add-zero (word_of k f)

ltb_suc : (v k : ℕ) → (v ≡ k → ⊥) → ltb v (suc k) ≡ ltb v k
ltb_suc v k ne = go (dec_lt v k)
  where
    go : Dec (v < k) → ltb v (suc k) ≡ ltb v k
    go (yes h) = lt-ltb v (suc k) (omega arith) ∙ sym (lt-ltb v k h)
    go (no h) = le-ltb v (suc k) (omega (arith, ne, h)) ∙ sym (le-ltb v k (omega (arith, h)))

set_bit : (k : ℕ) (f : ℕ → Bool) → has (with_all (word_of k f) (2 ^ k)) k ≡ true
unfolding with_all
set_bit k f = has_of_one (with_all (word_of k f) (2 ^ k)) k (set_here (word_of k f) k)

other_bit : (k : ℕ) (f : ℕ → Bool) (v : ℕ) → (v ≡ k → ⊥) → has (with_all (word_of k f) (2 ^ k)) v ≡ has (word_of k f) v
unfolding with_all
other_bit k f v ne = tests_agree (with_all (word_of k f) (2 ^ k)) (word_of k f) v (set_there (word_of k f) k v ne)

-- one test more, from the bits of the word so far
more_bits : (k : ℕ) (f : ℕ → Bool) (v : ℕ) → has (word_of k f) v ≡ (ltb v k && f v) → (t : Bool) → f k ≡ t → Dec (v ≡ k)
    → has (word_of k f + cond t (2 ^ k) 0) v ≡ (ltb v (suc k) && f v)
more_bits k f v so_far true e (yes q) =
    ap (λ (x : ℕ). has x v) (set_above (word_of k f) k (word_of_fits k f))
    ∙ subst (λ (n : ℕ). has (with_all (word_of k f) (2 ^ k)) n ≡ (ltb n (suc k) && f n)) (sym q) (set_bit k f
    ∙ sym (ap₂ ◌&&◌ (lt-ltb k (suc k) (omega arith)) e))
more_bits k f v so_far true e (no ne) =
    ap (λ (x : ℕ). has x v) (set_above (word_of k f) k (word_of_fits k f)) ∙ other_bit k f v ne
    ∙ so_far ∙ sym (ap (λ (t : Bool). t && f v) (ltb_suc v k ne))
more_bits k f v so_far false e (yes q) =
    ap (λ (x : ℕ). has x v) (add-zero (word_of k f)) ∙ so_far
    ∙ subst (λ (n : ℕ). (ltb n k && f n) ≡ (ltb n (suc k) && f n)) (sym q) (ap₂ ◌&&◌ (le-ltb k k (omega arith)) e
    ∙ sym (ap₂ ◌&&◌ (lt-ltb k (suc k) (omega arith)) e))
more_bits k f v so_far false e (no ne) =
    ap (λ (x : ℕ). has x v) (add-zero (word_of k f)) ∙ so_far ∙ sym (ap (λ (t : Bool). t && f v) (ltb_suc v k ne))

pub has_word_of : (k : ℕ) (f : ℕ → Bool) (v : ℕ) → has (word_of k f) v ≡ (ltb v k && f v)
unfolding word_of
has_word_of zero f v = has_zero v ∙ sym (ap (λ (t : Bool). t && f v) (le-ltb v 0 (omega arith)))
has_word_of (suc k) f v = more_bits k f v (has_word_of k f v) (f k) refl (ℕ_discrete v k)
