-- THE LAWS of the functions on stacks that the rest of the project cites, over lists bottom to top, and then the same over numbers.
use Prim.Native.Nat.{ℕ}
use mathlib.Core.Path.{◌≡◌, ap, ◌∙◌, subst}
use mathlib.Core.List.{List}
use mathlib.Core.Bool.{true, ◌&&◌}
use mathlib.Core.Logic.{◌↔◌}
use Rattle.lists.proofs.Tests.{both}
use Rattle.stacks.specs.Stacks.{ok_size, ok_stack, ok_number, count, stack_of}
use Rattle.stacks.proofs.Tests.{good}
use Rattle.stacks.proofs.Laws.{number_in_range, stack_in_range, number_of_stack}
use Rattle.stacks.proofs.Numbers.{stack_of_only}
use Rattle.functions.specs.Functions.{ok_function, apply, becomes, inverse}
use Rattle.functions.specs.Answers.{answer, applied_of, moved_of}
use Rattle.std.specs.Prelude.{Ok, Some}
use Rattle.functions.proofs.Tests.{function}
use Rattle.functions.proofs.Moves as moves
use Rattle.functions.proofs.Outcomes.{cond_moved, answer_number}
use Rattle.functions.proofs.Back.{apply_ok, apply_inverse, inverse_ok, inverse_inverse}
use Rattle.functions.proofs.Between as between

module _ (p h : ℕ) (size : ok_size p h ≡ true) where
  -- The three kinds on lists agree with arithmetic on numbers.
  pub moved_applied : (f n : ℕ) → moved_of p (count p h) f n ≡ applied_of p h f n
  moved_applied f n = moves.moved_applied p h f n size

  -- No function empties a stack or passes the height h.
  pub stays_a_stack : (f : ℕ) (s t : List ℕ) → ok_function p f ≡ true → ok_stack p h s ≡ true → apply h f s ≡ becomes t → ok_stack p h t ≡ true
  stays_a_stack f s t of os e = apply_ok p h f s t (function p f of).to os e

  -- The stack H with f(H) = H' is the one that the inverse of f makes of H',
  pub inverse_finds : (f : ℕ) (s t : List ℕ) → ok_function p f ≡ true → ok_stack p h s ≡ true → ok_stack p h t ≡ true
      → (apply h f s ≡ becomes t) ↔ (apply h (inverse f) t ≡ becomes s)
  inverse_finds f s t of os ot = (
    λ e. apply_inverse h f s t (function p f of).kind (good p h s os).low e,
    λ e. subst (λ (g : ℕ). apply h g s ≡ becomes t) (inverse_inverse f (function p f of).kind)
        (apply_inverse h (inverse f) t s (function p (inverse f) (inverse_ok p f of)).kind (good p h t ot).low e),
  )

  -- so there is at most one.
  pub one_before : (f : ℕ) (s s' t : List ℕ) → ok_function p f ≡ true → ok_stack p h s ≡ true → ok_stack p h s' ≡ true
      → apply h f s ≡ becomes t → apply h f s' ≡ becomes t → s ≡ s'
  one_before f s s' t of os os' e e' =
      let d = apply_inverse h f s t (function p f of).kind (good p h s os).low e in
      let d' = apply_inverse h f s' t (function p f of).kind (good p h s' os').low e' in
      cc

  -- Between two stacks at most one function leads.
  pub one_function : (f g : ℕ) (s t : List ℕ) → ok_function p f ≡ true → ok_function p g ≡ true
      → apply h f s ≡ becomes t → apply h g s ≡ becomes t → f ≡ g
  one_function f g s t of og e e' = between.one_function h f g s t (function p f of).kind (function p g og).kind e e'

-- THE SAME OVER NUMBERS, where `applied` is not refused

-- what `applied` says where it gives a number
pub record Leads (p h f n m : ℕ) : Type 0 where
  pub size : ok_size p h ≡ true
  pub from : ok_number p h n ≡ true
  pub by : ok_function p f ≡ true
  pub to : ok_number p h m ≡ true
  pub makes : apply h f (stack_of p h n) ≡ becomes (stack_of p h m)

pub leads : (p h f n m : ℕ) → applied_of p h f n ≡ Ok (Some m) → Leads p h f n m
leads p h f n m e =
    let c = cond_moved (ok_size p h && (ok_number p h n && ok_function p f)) (answer p (apply h f (stack_of p h n))) m e in
    let z = both (ok_size p h) (ok_number p h n && ok_function p f) c.0 in
    let o = both (ok_number p h n) (ok_function p f) z.1 in
    let w = answer_number p (apply h f (stack_of p h n)) m c.1 in
    let os = stack_in_range p h z.0 n o.0 in
    let ot = apply_ok p h f (stack_of p h n) w.0 (function p f o.1).to os w.1 in
    record {
      size = z.0;
      from = o.0;
      by = o.1;
      to = subst (λ (x : ℕ). ok_number p h x ≡ true) w.2 (number_in_range p h z.0 w.0 ot);
      makes = w.1 ∙ ap becomes (stack_of_only p h m w.0 ot w.2);
    }

pub leading : (p h f n m : ℕ) → Leads p h f n m → applied_of p h f n ≡ Ok (Some m)
leading p h f n m l = simp (l.size, l.from, l.by, l.makes) (ap (λ (n : ℕ). Ok (Some n)) (number_of_stack p h l.size m l.to))

-- at most one function leads from n to m
pub leads_by_lem : (p h f g n m : ℕ) → Leads p h f n m → Leads p h g n m → f ≡ g
leads_by_lem p h f g n m l l' = one_function p h l.size f g (stack_of p h n) (stack_of p h m) l.by l'.by l.makes l'.makes
