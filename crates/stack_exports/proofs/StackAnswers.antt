-- What the bare stack routines answer is within the ranges of specs/Ranges.antt.
use Prim.Native.Nat.{ℕ, zero, suc, ◌/◌, ◌≤◌, ◌<◌, ◌^◌}
use native.Mathlib.Omega.{arith}
use mathlib.Core.Path.{◌≡◌, refl, ap, ◌∙◌}
use mathlib.Core.List.{List}
use mathlib.Core.Bool.{Bool, true, false, cond, ◌&&◌}
use lib.ListN.{length}
use lib.Dec.{leb}
use Rattle.lists.proofs.Tests.{both}
use Rattle.stacks.specs.Stacks.{ok_size, ok_stack, ok_number, number, count, height, stack_of}
use Rattle.stacks.specs.Answers.{ok_out, count_of, number_of, height_of}
use Rattle.std.specs.Prelude.{Ok, Err, Some}
use Rattle.refusal.specs.declared.Refusal.{Refusal}
use Rattle.stacks.proofs.Count.{count_fits}
use Rattle.stacks.proofs.Laws.{number_in_range}
use Rattle.stacks.proofs.Tests.{sizes, within}
use Rattle.functions.specs.Functions.{ok_function, apply, Outcome, becomes, cannot, inverse}
use Rattle.functions.specs.Answers.{answer, applied_of, inverse_of}
use Rattle.functions.proofs.Back.{inverse_ok}
use Rattle.functions.proofs.Laws.{leads}
use Rattle.functions.proofs.Tests.{function}
use Rattle.stack_exports.specs.Ranges.{AnswerFits, AfterFits}

-- an answer that is refusal 4 but where a test holds
by_test : (b : Bool) (value : ℕ) → (b ≡ true → value < 2 ^ 62) → AnswerFits (cond b (Ok value) (Err Refusal.Range))
by_test true value h = h refl
by_test false value h = tt

number_small : (p h n : ℕ) → ok_size p h ≡ true → ok_number p h n ≡ true → n < 2 ^ 62
number_small p h n size ok = let z = sizes p h size in omega (arith, (within p h n ok).most, count_fits p h z.few z.low)

height_most : (p h n : ℕ) → height p h n ≤ h
height_most p zero n = omega arith
height_most p (suc h) zero = omega arith
height_most p (suc h) (suc n) = omega (arith, height_most p h (n / p))

pub stack_count_fits : (p h : ℕ) → AnswerFits (count_of p h)
stack_count_fits p h = by_test (ok_size p h) (count p h) (λ size. let z = sizes p h size in omega (arith, count_fits p h z.few z.low))

pub number_of_fits : (p h : ℕ) (s : List ℕ) → AnswerFits (number_of p h s)
number_of_fits p h s = by_test (ok_size p h && ok_stack p h s) (number p s)
    (λ ok. let b = both (ok_size p h) (ok_stack p h s) ok in number_small p h (number p s) b.0 (number_in_range p h b.0 s b.1))

pub stack_of_fits : (p h n : ℕ) (out : List ℕ) → AnswerFits (height_of p h n out)
unfolding ok_out
stack_of_fits p h n out = by_test (ok_out p h n out) (height p h n)
    (λ ok. let z = sizes p h (both (ok_size p h) (ok_number p h n && leb (height p h n) (length out)) ok).0 in omega (arith, height_most p h n, z.low))

pub inverse_of_fits : (p f : ℕ) → AnswerFits (inverse_of p f)
inverse_of_fits p f = by_test (leb 1 p && (leb p 8 && ok_function p f)) (inverse f)
    (λ ok. let b = both (leb p 8) (ok_function p f) (both (leb 1 p) (leb p 8 && ok_function p f) ok).1 in
    omega (arith, (function p (inverse f) (inverse_ok p f b.1)).kind))

-- no outcome of a function is a refusal
outcome_fits : (p : ℕ) (o : Outcome) → ((m : ℕ) → answer p o ≡ Ok (Some m) → (1 ≤ m) × (m < 2 ^ 62)) → AfterFits (answer p o)
outcome_fits p (becomes s) h = h (number p s) refl
outcome_fits p cannot h = tt

pub applied_fits : (p h f n : ℕ) → AfterFits (applied_of p h f n)
applied_fits p h f n = go (ok_size p h && (ok_number p h n && ok_function p f)) refl
  where
    go : (b : Bool) → (ok_size p h && (ok_number p h n && ok_function p f)) ≡ b → AfterFits (cond b (answer p (apply h f (stack_of p h n))) (Err Refusal.Range))
    go true e = outcome_fits p (apply h f (stack_of p h n))
        (λ m d. let l = leads p h f n m (ap (λ c. cond c (answer p (apply h f (stack_of p h n))) (Err Refusal.Range)) e ∙ d) in
        ((within p h m l.to).some, number_small p h m l.size l.to))
    go false e = tt
