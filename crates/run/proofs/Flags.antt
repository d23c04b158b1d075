-- Laws of the flags: they are right at first, and stay right where rows change.
use mathlib.Core.Path.{◌≡◌, sym, ap, subst, ◌∙◌}
use mathlib.Core.Logic.{◌⊎◌, inl, inr}
use mathlib.Core.Bool.{true}
use mathlib.Core.List.{List}
use Prim.Native.Nat.{ℕ, zero, suc, ◌-◌, ◌*◌, ◌/◌, ◌%◌, ◌^◌, ◌≤◌, ◌<◌}
use native.Mathlib.Nat.{zero-mul, mul-zero, mul_assoc, mod-lt, pow-suc, zero-lt-suc, le_of_suc-le-suc, div-lt_iff_lt-mul}
use native.Mathlib.Decide.{dec_lt, ℕ_discrete}
use native.Mathlib.Omega.{arith}
use lib.Bits.{or_lt}
use lib.ListN.{length, get_or, set, length-set, get_or-eq_default}
use lib.Pow.{pow-lt, pow_pos}
use lib.Seq.{get_or-set_same, get_or-set_other}
use Rattle.bits.specs.Bits.{bit, has, with_all, with_one}
use Rattle.bits.proofs.Bits.{bit_zero, bit_suc}
use Rattle.bits.proofs.Laws.{has_of_one}
use Rattle.bits.proofs.Masks.{with_one_below, has_with_one_here, has_with_one_there}
use Rattle.run.specs.Flags.{Flagged}

-- ---- where there is a row there are stacks and nodes
pub some_stacks : (n stacks i : ℕ) → i < n * (n * stacks) → 0 < stacks
some_stacks n zero i h = absurd (omega (arith, ap (λ (m : ℕ). n * m) (mul-zero n), mul-zero n))
some_stacks n (suc stacks) i h = zero-lt-suc stacks

pub some_nodes : (n stacks i : ℕ) → i < n * (n * stacks) → 0 < n
some_nodes zero stacks i h = absurd (omega (arith, zero-mul (0 * stacks)))
some_nodes (suc n) stacks i h = zero-lt-suc n

-- ---- at first every block has its flag
mask_bit : (n d : ℕ) → d < n → bit (2 ^ n - 1) d ≡ 1
mask_bit zero d h = absurd (omega arith)
mask_bit (suc n) zero h =
    let e : (2 ^ suc n - 1) % 2 ≡ 1 = omega (arith, pow-suc 2 n, pow_pos n) in
    bit_zero (2 ^ suc n - 1) ∙ e
mask_bit (suc n) (suc d) h =
    let e : (2 ^ suc n - 1) / 2 ≡ 2 ^ n - 1 = omega (arith, pow-suc 2 n, pow_pos n) in
    bit_suc (2 ^ suc n - 1) d ∙ ap (λ (w : ℕ). bit w d) e ∙ mask_bit n d (le_of_suc-le-suc h)

pub flagged_all : (n stacks : ℕ) (flags waiting : List ℕ) → n ≤ 32 → 1 ≤ n → length flags ≡ 32
    → ((u : ℕ) → u < 32 → get_or flags u 0 ≡ 2 ^ n - 1) → length waiting ≡ n * (n * stacks) → Flagged n stacks flags waiting
flagged_all n stacks flags waiting fits some long all rows = record {
  fits = fits;
  long = long;
  few = λ u. few u (dec_lt u 32);
  set = λ i l ne. on i (omega arith);
}
  where
    few : (u : ℕ) → Dec (u < 32) → get_or flags u 0 < 2 ^ n
    few u (yes h) = omega (arith, all u h, pow_pos n)
    few u (no h) = omega (arith, get_or-eq_default flags 0 {n = u} (omega (arith, h)), pow_pos n)

    node : (i : ℕ) → i < n * (n * stacks) → i / stacks / n < n
    node i h =
        let row : i < n * n * stacks = omega (arith, mul_assoc n n stacks) in
        (div-lt_iff_lt-mul (some_nodes n stacks i h)).1 ((div-lt_iff_lt-mul (some_stacks n stacks i h)).1 row)

    on : (i : ℕ) → i < n * (n * stacks) → has (get_or flags (i / stacks / n) 0) (i / stacks % n) ≡ true
    on i h =
        ap (λ (w : ℕ). has w (i / stacks % n)) (all (i / stacks / n) (omega (arith, node i h)))
        ∙ has_of_one (2 ^ n - 1) (i / stacks % n) (mask_bit n (i / stacks % n) (mod-lt (i / stacks) some))

-- ---- one word of flags is changed
stored : (P : ℕ → Type 0) (flags : List ℕ) (u w v : ℕ) → u < length flags → (v ≡ u → P w) → ((v ≡ u → ⊥) → P (get_or flags v 0))
    → P (get_or (set flags u w) v 0)
stored P flags u w v l here there = go (ℕ_discrete v u)
  where
    go : Dec (v ≡ u) → P (get_or (set flags u w) v 0)
    go (yes e) = subst (λ (k : ℕ). P (get_or (set flags u w) k 0)) (sym e) (subst P (sym (get_or-set_same flags u w 0 l)) (here e))
    go (no ne) = subst P (sym (get_or-set_other flags u v w 0 ne)) (there ne)

-- the block of the row at place i has its flag, where the node u has the flags w and the others have those of the list
abbrev pub Marked : ℕ → ℕ → List ℕ → ℕ → ℕ → ℕ → Type 0
Marked n stacks flags u w i =
    (i / stacks / n ≡ u → has w (i / stacks % n) ≡ true) × ((i / stacks / n ≡ u → ⊥) → has (get_or flags (i / stacks / n) 0) (i / stacks % n) ≡ true)

pub flagged_with : (n stacks : ℕ) (flags waiting waiting' : List ℕ) (u w : ℕ) → Flagged n stacks flags waiting → u < n → w < 2 ^ n
    → ((i : ℕ) → i < length waiting' → (get_or waiting' i 0 ≡ 0 → ⊥) → Marked n stacks flags u w i) → Flagged n stacks (set flags u w) waiting'
flagged_with n stacks flags waiting waiting' u w flagged h small on =
    let l : u < length flags = omega (arith, flagged.fits, flagged.long) in
    record {
      fits = flagged.fits;
      long = length-set flags u w ∙ flagged.long;
      few = λ v. stored (λ x. x < 2 ^ n) flags u w v l (λ e. small) (λ ne. flagged.few v);
      set = λ i m ne. stored (λ x. has x (i / stacks % n) ≡ true) flags u w (i / stacks / n) l (on i m ne).0 (on i m ne).1;
    }

-- ---- rows change
-- bits only go
pub flagged_kept : (n stacks : ℕ) (flags waiting waiting' : List ℕ) → Flagged n stacks flags waiting
    → ((i : ℕ) → i < length waiting' → (get_or waiting' i 0 ≡ 0 → ⊥) → get_or waiting i 0 ≡ 0 → ⊥)
    → length waiting' ≡ length waiting → Flagged n stacks flags waiting'
flagged_kept n stacks flags waiting waiting' flagged was same = record {
  fits = flagged.fits;
  long = flagged.long;
  few = flagged.few;
  set = λ i l ne. flagged.set i (omega arith) (was i l ne);
}

with_one_small : (n w d : ℕ) → n ≤ 32 → d < n → w < 2 ^ n → with_one w d < 2 ^ n
unfolding with_all
with_one_small n w d fits h l = rw (with_one_below w d (omega arith)) (or_lt n w (2 ^ d) l (pow-lt h))

-- a flag that is set now or was before
has_more : (w d k : ℕ) → d < 32 → (k ≡ d) ⊎ (has w k ≡ true) → has (with_one w d) k ≡ true
has_more w d k h (inl e) = ap (λ (j : ℕ). has (with_one w d) j) e ∙ has_with_one_here w d h
has_more w d k h (inr on) = go (ℕ_discrete k d)
  where
    go : Dec (k ≡ d) → has (with_one w d) k ≡ true
    go (yes e) = ap (λ (j : ℕ). has (with_one w d) j) e ∙ has_with_one_here w d h
    go (no ne) = has_with_one_there w d k ne ∙ on

-- the rows of one block change, and its flag is set
pub flagged_set : (n stacks : ℕ) (flags waiting waiting' : List ℕ) (U D : ℕ) → Flagged n stacks flags waiting → U < n → D < n
    → ((i : ℕ) → i < length waiting' → (get_or waiting' i 0 ≡ 0 → ⊥) → (get_or waiting i 0 ≡ 0 → ⊥) ⊎ ((i / stacks / n ≡ U) × (i / stacks % n ≡ D)))
    → length waiting' ≡ length waiting → Flagged n stacks (set flags U (with_one (get_or flags U 0) D)) waiting'
flagged_set n stacks flags waiting waiting' U D flagged h l was same =
    flagged_with n stacks flags waiting waiting' U (with_one (get_or flags U 0) D) flagged h
    (with_one_small n (get_or flags U 0) D flagged.fits l (flagged.few U)) (λ i m ne. on i (omega arith) (was i m ne))
  where
    below : D < 32
    below = omega (arith, flagged.fits)

    on : (i : ℕ) → i < length waiting → (get_or waiting i 0 ≡ 0 → ⊥) ⊎ ((i / stacks / n ≡ U) × (i / stacks % n ≡ D))
        → Marked n stacks flags U (with_one (get_or flags U 0) D) i
    on i m (inl ne) =
        let was_on = flagged.set i m ne in (
          λ e. has_more (get_or flags U 0) D (i / stacks % n) below (inr (ap (λ (v : ℕ). has (get_or flags v 0) (i / stacks % n)) (sym e) ∙ was_on)),
          λ other. was_on,
        )
    on i m (inr block) = (λ e. has_more (get_or flags U 0) D (i / stacks % n) below (inl block.1), λ other. absurd (other block.0))
