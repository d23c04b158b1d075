-- From an equation of outcomes or answers back to the tests that led to it.
use Prim.Native.Nat.{ℕ}
use native.Mathlib.Omega.{arith}
use mathlib.Core.Path.{◌≡◌, refl, sym, ap, ◌∙◌}
use mathlib.Core.List.{List, reverse, reverse-reverse}
use mathlib.Core.Bool.{Bool, true, false, cond}
use Rattle.stacks.specs.Stacks.{number}
use Rattle.functions.specs.Functions.{Outcome, becomes, cannot, turned}
use Rattle.functions.specs.Answers.{answer}
use Rattle.std.specs.Prelude.{Result, Ok, Err, Option, Some}
use Rattle.refusal.specs.declared.Refusal.{Refusal}

pub cond_becomes : (c : Bool) (x t : List ℕ) → cond c (becomes x) cannot ≡ becomes t → (c ≡ true) × (x ≡ t)
cond_becomes true x t e = (refl, (cc))
cond_becomes false x t e = absurd (let z : ◌≡◌ {A = ℕ} 0 1 = cc in omega arith)

pub cannot_becomes : (t : List ℕ) → cannot ≡ becomes t → ⊥
cannot_becomes t e = let z : ◌≡◌ {A = ℕ} 0 1 = cc in omega arith

pub turned_becomes : (o : Outcome) (t : List ℕ) → turned o ≡ becomes t → o ≡ becomes (reverse t)
turned_becomes (becomes s) t e =
    let i : reverse s ≡ t = cc in
    ap becomes (sym (reverse-reverse s) ∙ ap reverse i)
turned_becomes cannot t e = absurd (cannot_becomes t e)

pub cond_moved : (c : Bool) (x : Result (Option ℕ) Refusal) (m : ℕ) → cond c x (Err Refusal.Range) ≡ Ok (Some m) → (c ≡ true) × (x ≡ Ok (Some m))
cond_moved true x m e = (refl, e)
cond_moved false x m e = absurd (let z : ◌≡◌ {A = ℕ} 0 1 = cc in omega arith)

pub answer_number : (p : ℕ) (o : Outcome) (m : ℕ) → answer p o ≡ Ok (Some m) → (t : List ℕ) × (o ≡ becomes t) × (number p t ≡ m)
answer_number p (becomes t) m e = (t, refl, (cc))
answer_number p cannot m e = absurd (let z : ◌≡◌ {A = ℕ} 0 1 = cc in omega arith)
