-- What a function does to a stack is what `move_number` does to its number, and what it came from is one stack at most.
use Prim.Native.Nat.{ℕ, zero, suc, ◌/◌, ◌%◌, ◌≤◌, ◌<◌}
use native.Mathlib.Omega.{arith}
use mathlib.Core.Path.{◌≡◌, refl, sym, ap, ◌∙◌}
use mathlib.Core.List.{List, [], ◌∷◌, reverse}
use mathlib.Core.Bool.{Bool, true, false, cond, ◌&&◌, and-false, and_assoc}
use lib.ListN.{length, length-reverse}
use lib.Dec.{ltb, eqb}
use borrow.Author.Tests.{ltb-true, lt-ltb, le-leb}
use Rattle.lists.proofs.Tests.{both}
use Rattle.stacks.specs.Stacks.{ok_size, ok_stack, ok_number, count, stack_of, below, number}
use Rattle.functions.specs.Functions.{ok_function, Outcome, becomes, cannot, convert, wrap, unwrap, move, turned, apply}
use Rattle.functions.specs.Answers.{answer, applied_of, move_number, moved_of, ok_move}
use Rattle.std.specs.Prelude.{Result, Ok, Err, Option, Some, None}
use Rattle.refusal.specs.declared.Refusal.{Refusal}
use Rattle.stacks.proofs.Tests.{sizes, good, within}
use Rattle.functions.proofs.Tests.{function}
use Rattle.stacks.specs.Answers.{count_of}
use Rattle.stacks.proofs.Count.{count_fits}
use Rattle.stacks.proofs.Outcomes.{counted, uncounted}
use Rattle.stacks.proofs.Numbers.{num, number_num, number_reverse, below_reverse, num_top, num_rest, num_leb, number_stack_of, stack_of_ok}

-- the answer for an outcome that has its top first
abbrev pub answer_top : ℕ → Outcome → Result (Option ℕ) Refusal
answer_top p (becomes r) = Ok (Some (num p r))
answer_top p cannot = (Ok None)

pub answer_turned : (p : ℕ) (o : Outcome) → answer p (turned o) ≡ answer_top p o
answer_turned p (becomes r) = ap (λ (n : ℕ). Ok (Some n)) (number_reverse p r)
answer_turned p cannot = refl

answer_cond : (p : ℕ) (b : Bool) (r : List ℕ) → answer_top p (cond b (becomes r) cannot) ≡ cond b (Ok (Some (num p r))) (Ok None)
answer_cond p true r = refl
answer_cond p false r = refl

-- the three kinds, on the stack t ∷ r, top first

convert_num : (p h a b t : ℕ) (r : List ℕ) → t < p → answer_top p (convert a b (t ∷ r)) ≡ move_number p (count p h) 0 a b (num p (t ∷ r))
convert_num p h a b t r small =
    answer_cond p (eqb t a) (b ∷ r) ∙ simp (num_top p (num p r) t small, num_rest p (num p r) t small)

wrap_num : (p h a b t : ℕ) (r : List ℕ) → b < p → t < p → below p r ≡ true → answer_top p (wrap h a b (t ∷ r)) ≡ move_number p (count p h) 1 a b (num p (t ∷ r))
wrap_num p h a b t r sb st ok =
    answer_cond p (eqb t a && ltb (length (t ∷ r)) h) (b ∷ t ∷ r)
    ∙ simp (num_top p (num p r) t st, num_leb p h (b ∷ t ∷ r) (simp (lt-ltb b p sb, lt-ltb t p st) ok))

unwrap_num : (p m a b t k : ℕ) (r : List ℕ) → t < p → below p r ≡ true → answer_top p (unwrap a b (t ∷ r)) ≡ move_number p m (suc (suc k)) a b (num p (t ∷ r))
unwrap_num p m a b t k [] st ok = simp (num_top p 0 t st, num_rest p 0 t st, and-false)
unwrap_num p m a b t k (u ∷ r) st ok =
    let su = ltb-true u p (both (ltb u p) (below p r) ok).0 in
    answer_cond p (eqb t b && eqb u a) (u ∷ r)
    ∙ simp (num_top p (num p (u ∷ r)) t st, num_rest p (num p (u ∷ r)) t st, num_top p (num p r) u su, lt-ltb 0 (num p (u ∷ r)) (omega arith))

pub move_num : (p h k a b : ℕ) (r : List ℕ) → b < p → 1 ≤ length r → below p r ≡ true → answer_top p (move k h a b r) ≡ move_number p (count p h) k a b
    (num p r)
move_num p h k a b [] sb some ok = absurd (omega arith)
move_num p h zero a b (t ∷ r) sb some ok = convert_num p h a b t r (ltb-true t p (both (ltb t p) (below p r) ok).0)
move_num p h (suc zero) a b (t ∷ r) sb some ok =
    let c = both (ltb t p) (below p r) ok in
    wrap_num p h a b t r sb (ltb-true t p c.0) c.1
move_num p h (suc (suc k)) a b (t ∷ r) sb some ok =
    let c = both (ltb t p) (below p r) ok in
    unwrap_num p (count p h) a b t k r (ltb-true t p c.0) c.1

-- apply on a stack, by its number
pub apply_number : (p h f : ℕ) (s : List ℕ) → f % 8 < p → ok_stack p h s ≡ true → answer p (apply h f s) ≡ move_number p (count p h) (f / 64) (f / 8 % 8)
    (f % 8) (number p s)
apply_number p h f s sb ok =
    let g = good p h s ok in
    answer_turned p (move (f / 64) h (f / 8 % 8) (f % 8) (reverse s))
    ∙ move_num p h (f / 64) (f / 8 % 8) (f % 8) (reverse s) sb (omega (arith, length-reverse s, g.some)) (below_reverse p s ∙ g.small)
    ∙ ap (move_number p (count p h) (f / 64) (f / 8 % 8) (f % 8)) (sym (number_num p s))

-- the same from a number
apply_stack_of : (p h f n : ℕ) → 1 ≤ p → f % 8 < p → ok_number p h n ≡ true → answer p (apply h f (stack_of p h n)) ≡ move_number p (count p h) (f / 64)
    (f / 8 % 8) (f % 8) n
apply_stack_of p h f n some sb ok =
    apply_number p h f (stack_of p h n) sb (stack_of_ok p h n some ok)
    ∙ ap (move_number p (count p h) (f / 64) (f / 8 % 8) (f % 8)) (number_stack_of p h n some (within p h n ok).most)

ok_move_is : (p h f n : ℕ) → ok_size p h ≡ true → ok_move p (count p h) f n ≡ (ok_number p h n && ok_function p f)
unfolding ok_move ok_number
ok_move_is p h f n size =
    let z = sizes p h size in
    simp (le-leb 1 p z.some, le-leb p 8 z.few, le-leb (count p h) 78536544840 (count_fits p h z.few z.low), and_assoc)

-- what `moved` answers where it is told how many stacks there are is what `applied` answers
pub moved_applied : (p h f n : ℕ) → ok_size p h ≡ true → moved_of p (count p h) f n ≡ applied_of p h f n
moved_applied p h f n size = simp (ok_move_is p h f n size, size) (go (ok_number p h n) refl (ok_function p f) refl)
  where
    go : (a : Bool) → ok_number p h n ≡ a → (b : Bool) → ok_function p f ≡ b
        → cond (a && b) (move_number p (count p h) (f / 64) (f / 8 % 8) (f % 8) n) (Err Refusal.Range) ≡ cond (a && b) (answer p (apply h f (stack_of p h n)))
        (Err Refusal.Range)
    go true e true d = sym (apply_stack_of p h f n (sizes p h size).some (function p f d).to e)
    go true e false d = refl
    go false e b d = refl

-- what `applied` answers, by what `stack_count` does
pub applied_counted : (p h f n m : ℕ) → count_of p h ≡ Ok m → moved_of p m f n ≡ applied_of p h f n
applied_counted p h f n m e =
    let c = counted p h m e in
    ap (λ (x : ℕ). moved_of p x f n) (sym c.1) ∙ moved_applied p h f n c.0

pub applied_refused : (p h f n : ℕ) (r : Refusal) → count_of p h ≡ Err r → ◌≡◌ {A = Result (Option ℕ) Refusal} (Err r) (applied_of p h f n)
applied_refused p h f n r e =
    let c = uncounted p h r e in
    simp c.0 (ap Err (sym c.1))
