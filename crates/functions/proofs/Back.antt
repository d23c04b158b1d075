-- A function keeps within the stacks, and its inverse takes back what it does.
use Prim.Native.Nat.{ℕ, zero, suc, ◌+◌, ◌*◌, ◌/◌, ◌%◌, ◌≤◌, ◌<◌}
use native.Mathlib.Omega.{arith}
use mathlib.Core.Path.{◌≡◌, refl, sym, ap, ◌∙◌, subst}
use mathlib.Core.List.{List, [], ◌∷◌, reverse, reverse-reverse}
use mathlib.Core.Bool.{true, ◌&&◌}
use lib.ListN.{length, length-reverse}
use lib.Dec.{ltb, eqb}
use borrow.Author.Tests.{ltb-true, eqb-true, eq-eqb, lt-ltb}
use Rattle.lists.proofs.Tests.{both}
use Rattle.stacks.specs.Stacks.{ok_stack, below}
use Rattle.functions.specs.Functions.{ok_function, becomes, convert, wrap, unwrap, move, apply, inverse_at, inverse}
use Rattle.stacks.proofs.Tests.{Good, good, good_ok}
use Rattle.functions.proofs.Tests.{function, ok_function_yes}
use Rattle.stacks.proofs.Numbers.{below_reverse}
use Rattle.functions.proofs.Outcomes.{cond_becomes, cannot_becomes, turned_becomes}

good_reverse : (p h : ℕ) (s : List ℕ) → Good p h s → Good p h (reverse s)
good_reverse p h s g = record {
  small = below_reverse p s ∙ g.small;
  some = omega (arith, length-reverse s, g.some);
  low = omega (arith, length-reverse s, g.low);
}

-- each kind makes a stack of a stack

move_good : (p h k a b : ℕ) (s t : List ℕ) → b < p → Good p h s → move k h a b s ≡ becomes t → Good p h t
move_good p h zero a b [] t sb g e = absurd (cannot_becomes t e)
move_good p h zero a b (x ∷ r) t sb g e =
    let c = cond_becomes (eqb x a) (b ∷ r) t e in
    subst (Good p h) c.1 (record { small = simp (lt-ltb b p sb) (both (ltb x p) (below p r) g.small).1; some = g.some; low = g.low })
move_good p h (suc zero) a b [] t sb g e = absurd (cannot_becomes t e)
move_good p h (suc zero) a b (x ∷ r) t sb g e =
    let c = cond_becomes (eqb x a && ltb (length (x ∷ r)) h) (b ∷ x ∷ r) t e in
    let d = both (eqb x a) (ltb (length (x ∷ r)) h) c.0 in
    subst (Good p h) c.1 (record { small = simp (lt-ltb b p sb) g.small; some = omega arith; low = ltb-true (length (x ∷ r)) h d.1 })
move_good p h (suc (suc k)) a b [] t sb g e = absurd (cannot_becomes t e)
move_good p h (suc (suc k)) a b (x ∷ []) t sb g e = absurd (cannot_becomes t e)
move_good p h (suc (suc k)) a b (x ∷ u ∷ r) t sb g e =
    let c = cond_becomes (eqb x b && eqb u a) (u ∷ r) t e in
    subst (Good p h) c.1 (record { small = (both (ltb x p) (below p (u ∷ r)) g.small).1; some = omega arith; low = omega (arith, g.low) })

-- a function makes a stack of a stack
pub apply_ok : (p h f : ℕ) (s t : List ℕ) → f % 8 < p → ok_stack p h s ≡ true → apply h f s ≡ becomes t → ok_stack p h t ≡ true
apply_ok p h f s t sb ok e =
    let m = turned_becomes (move (f / 64) h (f / 8 % 8) (f % 8) (reverse s)) t e in
    good_ok p h t
    (subst (Good p h) (reverse-reverse t)
    (good_reverse p h (reverse t) (move_good p h (f / 64) (f / 8 % 8) (f % 8) (reverse s) (reverse t) sb (good_reverse p h s (good p h s ok)) m)))

-- each kind is taken back by a kind

convert_back : (a b : ℕ) (s t : List ℕ) → convert a b s ≡ becomes t → convert b a t ≡ becomes s
convert_back a b [] t e = absurd (cannot_becomes t e)
convert_back a b (x ∷ r) t e =
    let c = cond_becomes (eqb x a) (b ∷ r) t e in
    subst (λ (l : List ℕ). convert b a l ≡ becomes (x ∷ r)) c.1
    (simp (eq-eqb b b refl) (ap (λ (y : ℕ). becomes (y ∷ r)) (sym (eqb-true x a c.0))))

wrap_back : (h a b : ℕ) (s t : List ℕ) → wrap h a b s ≡ becomes t → unwrap a b t ≡ becomes s
wrap_back h a b [] t e = absurd (cannot_becomes t e)
wrap_back h a b (x ∷ r) t e =
    let c = cond_becomes (eqb x a && ltb (length (x ∷ r)) h) (b ∷ x ∷ r) t e in
    let d = both (eqb x a) (ltb (length (x ∷ r)) h) c.0 in
    subst (λ (l : List ℕ). unwrap a b l ≡ becomes (x ∷ r)) c.1 (simp (eq-eqb b b refl, d.0))

unwrap_back : (h a b : ℕ) (s t : List ℕ) → length s ≤ h → unwrap a b s ≡ becomes t → wrap h a b t ≡ becomes s
unwrap_back h a b [] t low e = absurd (cannot_becomes t e)
unwrap_back h a b (x ∷ []) t low e = absurd (cannot_becomes t e)
unwrap_back h a b (x ∷ u ∷ r) t low e =
    let c = cond_becomes (eqb x b && eqb u a) (u ∷ r) t e in
    let d = both (eqb x b) (eqb u a) c.0 in
    subst (λ (l : List ℕ). wrap h a b l ≡ becomes (x ∷ u ∷ r)) c.1
    (simp (d.1, lt-ltb (length (u ∷ r)) h low) (ap (λ (y : ℕ). becomes (y ∷ u ∷ r)) (sym (eqb-true x b d.0))))

-- the parts of the inverse's number
pub record Parts (f k a b : ℕ) : Type 0 where
  pub kind : f / 64 ≡ k
  pub from : f / 8 % 8 ≡ a
  pub to : f % 8 ≡ b
  pub few : f < 192

-- two octal digits, a step at a time: `omega` does not do it at one go
octal : (g x y : ℕ) → g ≡ 8 * x + y → x < 8 → y < 8 → g / 8 % 8 ≡ x
octal g x y e hx hy = let d : g / 8 ≡ x = omega arith in omega arith

parts_0 : (f : ℕ) → f / 64 ≡ 0 → Parts (inverse f) 0 (f % 8) (f / 8 % 8)
parts_0 f e =
    let i : inverse f ≡ 8 * (f % 8) + f / 8 % 8 = ap (λ (k : ℕ). inverse_at k f) e in
    record { kind = omega arith; from = octal (inverse f) (f % 8) (f / 8 % 8) i (omega arith) (omega arith); to = omega arith; few = omega arith }

parts_1 : (f : ℕ) → f / 64 ≡ 1 → Parts (inverse f) 2 (f / 8 % 8) (f % 8)
parts_1 f e = omega (arith, ap (λ (k : ℕ). inverse_at k f) e)

parts_2 : (f : ℕ) → f / 64 ≡ 2 → Parts (inverse f) 1 (f / 8 % 8) (f % 8)
parts_2 f e = omega (arith, ap (λ (k : ℕ). inverse_at k f) e)

at_parts : (h f k a b : ℕ) (s t : List ℕ) → Parts f k a b → move k h a b (reverse t) ≡ becomes (reverse s) → apply h f t ≡ becomes s
at_parts h f k a b s t q m = rw (q.kind, q.from, q.to, m) (ap becomes (reverse-reverse s))

-- what f makes of a stack, its inverse makes into that stack
pub apply_inverse : (h f : ℕ) (s t : List ℕ) → f < 192 → length s ≤ h → apply h f s ≡ becomes t → apply h (inverse f) t ≡ becomes s
apply_inverse h f s t few low e = go (f / 64) refl (turned_becomes (move (f / 64) h (f / 8 % 8) (f % 8) (reverse s)) t e)
  where
    go : (k : ℕ) → f / 64 ≡ k → move k h (f / 8 % 8) (f % 8) (reverse s) ≡ becomes (reverse t) → apply h (inverse f) t ≡ becomes s
    go zero q m = at_parts h (inverse f) 0 (f % 8) (f / 8 % 8) s t (parts_0 f q) (convert_back (f / 8 % 8) (f % 8) (reverse s) (reverse t) m)
    go (suc zero) q m = at_parts h (inverse f) 2 (f / 8 % 8) (f % 8) s t (parts_1 f q) (wrap_back h (f / 8 % 8) (f % 8) (reverse s) (reverse t) m)
    go (suc (suc zero)) q m =
        at_parts h (inverse f) 1 (f / 8 % 8) (f % 8) s t (parts_2 f q)
        (unwrap_back h (f / 8 % 8) (f % 8) (reverse s) (reverse t) (omega (arith, length-reverse s)) m)
    go (suc (suc (suc k))) q m = absurd (omega arith)

pub inverse_ok : (p f : ℕ) → ok_function p f ≡ true → ok_function p (inverse f) ≡ true
inverse_ok p f ok = go (f / 64) refl
  where
    go : (k : ℕ) → f / 64 ≡ k → ok_function p (inverse f) ≡ true
    go zero q =
        let z = parts_0 f q in
        ok_function_yes p (inverse f) z.few (omega (arith, z.from, (function p f ok).to)) (omega (arith, z.to, (function p f ok).from))
    go (suc zero) q =
        let z = parts_1 f q in
        ok_function_yes p (inverse f) z.few (omega (arith, z.from, (function p f ok).from)) (omega (arith, z.to, (function p f ok).to))
    go (suc (suc zero)) q =
        let z = parts_2 f q in
        ok_function_yes p (inverse f) z.few (omega (arith, z.from, (function p f ok).from)) (omega (arith, z.to, (function p f ok).to))
    go (suc (suc (suc k))) q = absurd (omega (arith, (function p f ok).kind))

-- the inverse of the inverse is the function
pub inverse_inverse : (f : ℕ) → f < 192 → inverse (inverse f) ≡ f
inverse_inverse f few = go (f / 64) refl
  where
    go : (k : ℕ) → f / 64 ≡ k → inverse (inverse f) ≡ f
    go zero q =
        let z = parts_0 f q in
        let i : inverse (inverse f) ≡ 8 * (inverse f % 8) + inverse f / 8 % 8 = ap (λ (k : ℕ). inverse_at k (inverse f)) z.kind in
        let low : f / 8 < 8 = omega arith in
        let d : f / 8 % 8 ≡ f / 8 = omega arith in
        omega (arith, i, z.from, z.to)
    go (suc zero) q = omega (arith, ap (λ (k : ℕ). inverse_at k (inverse f)) (parts_1 f q).kind, ap (λ (k : ℕ). inverse_at k f) q)
    go (suc (suc zero)) q = omega (arith, ap (λ (k : ℕ). inverse_at k (inverse f)) (parts_2 f q).kind, ap (λ (k : ℕ). inverse_at k f) q)
    go (suc (suc (suc k))) q = absurd (omega arith)
