-- THE LAWS of stacks and their numbers that the rest of the project cites, over lists bottom to top.
use Prim.Native.Nat.{ℕ, ◌≤◌}
use mathlib.Core.Path.{◌≡◌, sym, ap, ◌∙◌}
use mathlib.Core.List.{List}
use mathlib.Core.Bool.{true}
use mathlib.Core.Logic.{◌↔◌}
use lib.ListN.{length}
use Rattle.stacks.specs.Stacks.{ok_size, ok_stack, ok_number, below, number, count, stack_of}
use Rattle.stacks.proofs.Tests.{sizes, good, within}
use Rattle.stacks.proofs.Numbers as numbers

module _ (p h : ℕ) (size : ok_size p h ≡ true) where
  -- A stack has a number from 1 to S,
  pub number_in_range : (s : List ℕ) → ok_stack p h s ≡ true → ok_number p h (number p s) ≡ true
  number_in_range s ok = numbers.number_ok p h s ok

  -- each number from 1 to S has a stack,
  pub stack_in_range : (n : ℕ) → ok_number p h n ≡ true → ok_stack p h (stack_of p h n) ≡ true
  stack_in_range n ok = numbers.stack_of_ok p h n (sizes p h size).some ok

  -- which has that number,
  pub number_of_stack : (n : ℕ) → ok_number p h n ≡ true → number p (stack_of p h n) ≡ n
  number_of_stack n ok = numbers.number_stack_of p h n (sizes p h size).some (within p h n ok).most

  -- and no other stack has it.
  pub stack_of_number : (s : List ℕ) → ok_stack p h s ≡ true → stack_of p h (number p s) ≡ s
  stack_of_number s ok = numbers.stack_of_number_short p h s (good p h s ok).small (good p h s ok).low

  pub same_number : (s t : List ℕ) → ok_stack p h s ≡ true → ok_stack p h t ≡ true → number p s ≡ number p t → s ≡ t
  same_number s t os ot e = sym (stack_of_number s os) ∙ ap (stack_of p h) e ∙ stack_of_number t ot

  -- A number is at most S exactly where the height is at most h.
  pub number_high : (s : List ℕ) → below p s ≡ true → (number p s ≤ count p h) ↔ (length s ≤ h)
  number_high s ok = numbers.number_high p h s ok
