-- Between two stacks at most one function leads: it is read off the two heights and the two tops.
use Prim.Native.Nat.{ℕ, zero, suc, ◌+◌, ◌*◌, ◌/◌, ◌%◌, ◌<◌}
use native.Mathlib.Omega.{arith}
use mathlib.Core.Path.{◌≡◌, refl, sym, ap, ◌∙◌}
use mathlib.Core.List.{List, [], ◌∷◌, reverse}
use mathlib.Core.Bool.{cond, ◌&&◌}
use lib.ListN.{length}
use lib.Dec.{eqb, ltb}
use borrow.Author.Tests.{eqb-true, eq-eqb, ne_eqb, lt-ltb, le-ltb}
use Rattle.lists.proofs.Tests.{both}
use Rattle.functions.specs.Functions.{becomes, move, apply}
use Rattle.functions.proofs.Outcomes.{cond_becomes, cannot_becomes, turned_becomes}

abbrev first : List ℕ → ℕ
first [] = 0
first (t ∷ r) = t

-- the number of the function that makes t of s, both with the top first
abbrev between : List ℕ → List ℕ → ℕ
between s t =
    cond (eqb (length s) (length t)) (8 * first s + first t)
    (cond (ltb (length s) (length t)) (64 + 8 * first s + first t) (128 + 8 * first t + first s))

move_between : (k h a b : ℕ) (s t : List ℕ) → k < 3 → move k h a b s ≡ becomes t → 64 * k + 8 * a + b ≡ between s t
move_between zero h a b [] t few e = absurd (cannot_becomes t e)
move_between (suc zero) h a b [] t few e = absurd (cannot_becomes t e)
move_between (suc (suc k)) h a b [] t few e = absurd (cannot_becomes t e)
move_between zero h a b (x ∷ r) t few e =
    let c = cond_becomes (eqb x a) (b ∷ r) t e in
    let same : between (x ∷ r) (b ∷ r) ≡ 8 * x + b = simp (eq-eqb (suc (length r)) (suc (length r)) refl) in
    omega (arith, same, eqb-true x a c.0, ap (between (x ∷ r)) c.1)
move_between (suc zero) h a b (x ∷ r) t few e =
    let c = cond_becomes (eqb x a && ltb (length (x ∷ r)) h) (b ∷ x ∷ r) t e in
    let d = both (eqb x a) (ltb (length (x ∷ r)) h) c.0 in
    let up : between (x ∷ r) (b ∷ x ∷ r) ≡ 64 + 8 * x + b =
    simp (
      ne_eqb (suc (length r)) (suc (suc (length r))) (λ (q : suc (length r) ≡ suc (suc (length r))). omega arith),
      lt-ltb (suc (length r))
          (suc (suc (length r))) (omega arith),
    ) in
    omega (arith, up, eqb-true x a d.0, ap (between (x ∷ r)) c.1)
move_between (suc (suc zero)) h a b (x ∷ []) t few e = absurd (cannot_becomes t e)
move_between (suc (suc zero)) h a b (x ∷ u ∷ r) t few e =
    let c = cond_becomes (eqb x b && eqb u a) (u ∷ r) t e in
    let d = both (eqb x b) (eqb u a) c.0 in
    let down : between (x ∷ u ∷ r) (u ∷ r) ≡ 128 + 8 * u + x =
    simp (
      ne_eqb (suc (suc (length r))) (suc (length r)) (λ (q : suc (suc (length r)) ≡ suc (length r)). omega arith),
      le-ltb (suc (suc (length r)))
          (suc (length r)) (omega arith),
    ) in
    omega (arith, down, eqb-true x b d.0, eqb-true u a d.1, ap (between (x ∷ u ∷ r)) c.1)
move_between (suc (suc (suc k))) h a b (x ∷ r) t few e = absurd (omega arith)

apply_between : (h f : ℕ) (s t : List ℕ) → f < 192 → apply h f s ≡ becomes t → f ≡ between (reverse s) (reverse t)
apply_between h f s t few e =
    let m = move_between (f / 64) h (f / 8 % 8) (f % 8) (reverse s) (reverse t) (omega arith)
    (turned_becomes (move (f / 64) h (f / 8 % 8) (f % 8) (reverse s)) t e) in
    let d : f / 8 / 8 ≡ f / 64 = omega arith in
    omega arith

-- so two functions that make the same of one stack are one
pub one_function : (h f g : ℕ) (s t : List ℕ) → f < 192 → g < 192 → apply h f s ≡ becomes t → apply h g s ≡ becomes t → f ≡ g
one_function h f g s t few few' e e' = apply_between h f s t few e ∙ sym (apply_between h g s t few' e')
