-- A stack and its number determine each other. The proofs go over the stack with its top first, where the number and the stack of a number
-- are plain recursions: `num` and `tops`.
use Prim.Native.Nat.{ℕ, zero, suc, ◌+◌, ◌-◌, ◌*◌, ◌/◌, ◌%◌, ◌≤◌, ◌<◌, zero-le}
use native.Mathlib.Nat.{mul-suc, mul_comm, mul-le-mul_left, le_trans, div-add-mod, div-lt_iff_lt-mul, mul-add-mod_self_left, mod-eq_of_lt, mul-add-div, div-eq_of_lt, add-zero, mod-lt}
use native.Mathlib.Numerals.{add-one}
use native.Mathlib.Omega.{arith}
use mathlib.Core.Path.{◌≡◌, refl, sym, ap, ◌∙◌}
use mathlib.Core.List.{List, [], ◌∷◌, reverse, reverse_aux, reverse-reverse}
use mathlib.Core.Bool.{Bool, true, false, ◌&&◌, and_assoc, and_comm}
use mathlib.Core.Logic.{◌↔◌}
use lib.ListN.{length, length-reverse}
use lib.Dec.{leb, ltb}
use borrow.Author.Tests.{leb-true, leb-false, ltb-true, lt-ltb, le-leb, lt-leb}
use Rattle.lists.proofs.Tests.{both}
use Rattle.stacks.specs.Stacks.{ok_stack, ok_number, count, height, stack_under, stack_of, below, number_from, number, top, rest}
use Rattle.stacks.proofs.Tests.{good, good_ok, within, ok_number_yes}
use Rattle.stacks.proofs.Count.{count_suc, count_mono}
use Rattle.stacks.proofs.Heights.{height_le, height_some}

-- the number of a stack, top first
abbrev pub num : ℕ → List ℕ → ℕ
num p [] = 0
num p (q ∷ r) = p * num p r + q + 1

-- the stack of a number, top first
abbrev pub tops : ℕ → ℕ → ℕ → List ℕ
tops p zero n = []
tops p (suc h) zero = []
tops p (suc h) (suc n) = n % p ∷ tops p h (n / p)

-- the two ways round

pub number_from_num : (p : ℕ) (s r : List ℕ) → number_from p (num p r) s ≡ num p (reverse_aux s r)
number_from_num p [] r = refl
number_from_num p (q ∷ s) r = number_from_num p s (q ∷ r)

pub number_num : (p : ℕ) (s : List ℕ) → number p s ≡ num p (reverse s)
number_num p s = number_from_num p s []

pub number_reverse : (p : ℕ) (r : List ℕ) → number p (reverse r) ≡ num p r
number_reverse p r = number_num p (reverse r) ∙ ap (num p) (reverse-reverse r)

pub stack_under_tops : (p h n : ℕ) (s : List ℕ) → stack_under p h n s ≡ reverse_aux (tops p h n) s
stack_under_tops p zero n s = refl
stack_under_tops p (suc h) zero s = refl
stack_under_tops p (suc h) (suc n) s = stack_under_tops p h (n / p) (n % p ∷ s)

pub below_reverse_aux : (p : ℕ) (r s : List ℕ) → below p (reverse_aux r s) ≡ (below p r && below p s)
below_reverse_aux p [] s = refl
below_reverse_aux p (q ∷ r) s =
    below_reverse_aux p r (q ∷ s) ∙ sym (and_assoc (below p r) (ltb q p) (below p s)) ∙ ap (λ (b : Bool). b && below p s) (and_comm (below p r) (ltb q p))

pub below_reverse : (p : ℕ) (r : List ℕ) → below p (reverse r) ≡ below p r
below_reverse p r = below_reverse_aux p r [] ∙ and_comm (below p r) true

-- the top, and the rest

pub num_top : (p m t : ℕ) → t < p → top p (p * m + t + 1) ≡ t
num_top p m t h =
    let e : p * m + t + 1 - 1 ≡ p * m + t = omega arith in
    ap (λ (x : ℕ). x % p) e ∙ mul-add-mod_self_left p m t ∙ mod-eq_of_lt h

pub num_rest : (p m t : ℕ) → t < p → rest p (p * m + t + 1) ≡ m
num_rest p m t h =
    let e : p * m + t + 1 - 1 ≡ p * m + t = omega arith in
    ap (λ (x : ℕ). x / p) e ∙ mul-add-div (omega arith) m t ∙ ap (λ (x : ℕ). m + x) (div-eq_of_lt h) ∙ add-zero m

-- number and stack

pub num_tops : (p h n : ℕ) → 1 ≤ p → n ≤ count p h → num p (tops p h n) ≡ n
num_tops p zero n some le = omega arith
num_tops p (suc h) zero some le = refl
num_tops p (suc h) (suc n) some le =
    let lt : n / p < suc (count p h) = (div-lt_iff_lt-mul some).1 (omega (arith, count_suc p h, mul_comm (suc (count p h)) p, mul-suc p (count p h))) in
    omega (arith, ap (λ (x : ℕ). p * x) (num_tops p h (n / p) some (omega arith)), div-add-mod n p)

tops_none : (p h : ℕ) → tops p h 0 ≡ []
tops_none p zero = refl
tops_none p (suc h) = refl

pub tops_num : (p h : ℕ) (r : List ℕ) → below p r ≡ true → length r ≤ h → tops p h (num p r) ≡ r
tops_num p h [] ok le = tops_none p h
tops_num p zero (q ∷ r) ok le = absurd (omega arith)
tops_num p (suc h) (q ∷ r) ok le =
    let b = both (ltb q p) (below p r) ok in
    let small : q < p = ltb-true q p b.0 in
    let m : (p * num p r + q) % p ≡ q = mul-add-mod_self_left p (num p r) q ∙ mod-eq_of_lt small in
    let d : (p * num p r + q) / p ≡ num p r = mul-add-div (omega arith) (num p r) q ∙ ap (λ (x : ℕ). num p r + x) (div-eq_of_lt small) ∙ add-zero (num p r) in
    rw (add-one (p * num p r + q), m, d) (ap (λ (s : List ℕ). q ∷ s) (tops_num p h r b.1 (omega arith)))

pub length_tops : (p h n : ℕ) → length (tops p h n) ≡ height p h n
length_tops p zero n = refl
length_tops p (suc h) zero = refl
length_tops p (suc h) (suc n) = ap suc (length_tops p h (n / p))

pub below_tops : (p h n : ℕ) → 1 ≤ p → below p (tops p h n) ≡ true
below_tops p zero n some = refl
below_tops p (suc h) zero some = refl
below_tops p (suc h) (suc n) some = simp (lt-ltb (n % p) p (mod-lt n some)) (below_tops p h (n / p) some)

pub num_le : (p : ℕ) (r : List ℕ) → below p r ≡ true → num p r ≤ count p (length r)
num_le p [] ok = zero-le
num_le p (q ∷ r) ok =
    let b = both (ltb q p) (below p r) ok in
    omega (arith, ltb-true q p b.0, count_suc p (length r), mul-le-mul_left p (num_le p r b.1))

pub num_gt : (p h : ℕ) (r : List ℕ) → h < length r → count p h < num p r
num_gt p h [] lt = absurd (omega arith)
num_gt p zero (q ∷ r) lt = omega arith
num_gt p (suc h) (q ∷ r) lt =
    omega (arith, count_suc p h, mul-suc p (count p h), mul-le-mul_left p (num_gt p h r (omega arith)))

-- a number is within the count just where its stack is within the height
pub num_leb : (p h : ℕ) (r : List ℕ) → below p r ≡ true → leb (num p r) (count p h) ≡ leb (length r) h
num_leb p h r ok = go (leb (length r) h) refl
  where
    go : (b : Bool) → leb (length r) h ≡ b → leb (num p r) (count p h) ≡ leb (length r) h
    go true e = le-leb _ _ (le_trans (num_le p r ok) (count_mono p (length r) h (leb-true _ _ e))) ∙ sym e
    go false e = lt-leb _ _ (num_gt p h r (leb-false _ _ e)) ∙ sym e

-- of stacks bottom to top

pub number_leb : (p h : ℕ) (s : List ℕ) → below p s ≡ true → leb (number p s) (count p h) ≡ leb (length s) h
number_leb p h s ok =
    ap (λ (n : ℕ). leb n (count p h)) (number_num p s)
    ∙ num_leb p h (reverse s) (below_reverse p s ∙ ok)
    ∙ ap (λ (n : ℕ). leb n h) (length-reverse s)

pub number_high : (p h : ℕ) (s : List ℕ) → below p s ≡ true → (number p s ≤ count p h) ↔ (length s ≤ h)
number_high p h s ok =
    (λ le. leb-true _ _ (sym (number_leb p h s ok) ∙ le-leb _ _ le), λ le. leb-true _ _ (number_leb p h s ok ∙ le-leb _ _ le))

pub number_stack_of : (p h n : ℕ) → 1 ≤ p → n ≤ count p h → number p (stack_of p h n) ≡ n
number_stack_of p h n some le = ap (number p) (stack_under_tops p h n []) ∙ number_reverse p (tops p h n) ∙ num_tops p h n some le

pub stack_of_number_short : (p h : ℕ) (s : List ℕ) → below p s ≡ true → length s ≤ h → stack_of p h (number p s) ≡ s
stack_of_number_short p h s ok le =
    stack_under_tops p h (number p s) []
    ∙ ap (λ (n : ℕ). reverse (tops p h n)) (number_num p s)
    ∙ ap reverse (tops_num p h (reverse s) (below_reverse p s ∙ ok) (omega (arith, length-reverse s)))
    ∙ reverse-reverse s

pub below_stack_of : (p h n : ℕ) → 1 ≤ p → below p (stack_of p h n) ≡ true
below_stack_of p h n some = ap (below p) (stack_under_tops p h n []) ∙ below_reverse p (tops p h n) ∙ below_tops p h n some

pub length_stack_of : (p h n : ℕ) → length (stack_of p h n) ≡ height p h n
length_stack_of p h n = ap length (stack_under_tops p h n []) ∙ length-reverse (tops p h n) ∙ length_tops p h n

-- the number of a stack of height 1 to h is one from 1 to the count
pub number_ok : (p h : ℕ) (s : List ℕ) → ok_stack p h s ≡ true → ok_number p h (number p s) ≡ true
number_ok p h s ok =
    let g = good p h s ok in
    let pos : 1 ≤ number p s = omega (arith, g.some, number_num p s, num_gt p 0 (reverse s) (omega (arith, g.some, length-reverse s))) in
    ok_number_yes p h (number p s) pos ((number_high p h s g.small).1 g.low)

-- each number from 1 to the count has a stack of height 1 to h
pub stack_of_ok : (p h n : ℕ) → 1 ≤ p → ok_number p h n ≡ true → ok_stack p h (stack_of p h n) ≡ true
stack_of_ok p h n some ok =
    let w = within p h n ok in
    good_ok p h (stack_of p h n) (record {
      small = below_stack_of p h n some;
      some = omega (arith, length_stack_of p h n, height_some p h n w.some w.most);
      low = omega (arith, length_stack_of p h n, height_le p h n);
    })

-- and only one
pub stack_of_only : (p h n : ℕ) (s : List ℕ) → ok_stack p h s ≡ true → number p s ≡ n → s ≡ stack_of p h n
stack_of_only p h n s ok e =
    let g = good p h s ok in
    sym (stack_of_number_short p h s g.small g.low) ∙ ap (stack_of p h) e

-- the height of a number is that of its stack
pub height_number : (p h : ℕ) (s : List ℕ) → below p s ≡ true → length s ≤ h → height p h (number p s) ≡ length s
height_number p h s ok le = sym (length_stack_of p h (number p s)) ∙ ap length (stack_of_number_short p h s ok le)
