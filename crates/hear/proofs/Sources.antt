-- Which function leads from which stack number to the heard one: by arithmetic on the number's top and rest, for any bound `most`.
use Prim.Native.Nat.{ℕ, zero, suc, ◌+◌, ◌-◌, ◌*◌, ◌/◌, ◌≤◌, ◌<◌}
use native.Mathlib.Nat.{div-add-mod, mul-le-mul_left, mul-le-mul_right, mul-suc, one-mul}
use native.Mathlib.Omega.{arith}
use mathlib.Core.Path.{◌≡◌, refl, sym, ap, ◌∙◌}
use mathlib.Core.Bool.{Bool, true, false, cond, ◌&&◌}
use lib.Dec.{leb, ltb, eqb}
use borrow.Author.Tests.{ltb-true, eqb-true, eq-eqb, lt-ltb, le-leb}
use Rattle.lists.proofs.Tests.{both}
use Rattle.stacks.specs.Stacks.{top, rest}
use Rattle.stacks.proofs.Numbers.{num_top, num_rest}
use Rattle.functions.proofs.Outcomes.{cond_moved}
use Rattle.functions.specs.Functions.{kind_of, from_of, to_of}
use Rattle.functions.specs.Answers.{move_number, moved_of, ok_move}
use Rattle.std.specs.Prelude.{Ok, None}
use Rattle.functions.specs.Answers.{made}
use Rattle.functions.proofs.Tests.{Moves, moves, ok_function_yes}

-- the function of this kind, from a and to b, makes the stack `number` of the stack n
abbrev pub Source : ℕ → ℕ → ℕ → ℕ → ℕ → ℕ → Type 0
Source p number zero a b n = (b ≡ top p number) × (n ≡ p * rest p number + a + 1)
Source p number (suc zero) a b n = (b ≡ top p number) × (1 ≤ rest p number) × (a ≡ top p (rest p number)) × (n ≡ rest p number)
Source p number (suc (suc k)) a b n = (a ≡ top p number) × (n ≡ p * number + b + 1)

cond_number : (c : Bool) (x m : ℕ) → cond c (made x) (Ok None) ≡ made m → (c ≡ true) × (x ≡ m)
cond_number true x m e = (refl, (cc))
cond_number false x m e = absurd (let z : ◌≡◌ {A = ℕ} 0 1 = cc in omega arith)

-- a number from 1 on is put together again from its rest and its top
pub parts : (p n : ℕ) → 1 ≤ n → p * rest p n + top p n + 1 ≡ n
parts p n some = omega (arith, div-add-mod (n - 1) p)

-- there and back, a kind at a time
module _ (p most number n a b : ℕ) where
  convert_source : b < p → 1 ≤ n → move_number p most 0 a b n ≡ made number → Source p number 0 a b n
  convert_source small some e =
      let c = cond_number (eqb (top p n) a) (p * rest p n + b + 1) number e in
      let t : top p number ≡ b = ap (top p) (sym c.1) ∙ num_top p (rest p n) b small in
      let r : rest p number ≡ rest p n = ap (rest p) (sym c.1) ∙ num_rest p (rest p n) b small in
      (sym t, sym (parts p n some) ∙ omega (arith, ap (λ (x : ℕ). p * x) r, eqb-true (top p n) a c.0))

  wrap_source : b < p → 1 ≤ n → move_number p most 1 a b n ≡ made number → Source p number 1 a b n
  wrap_source small some e =
      let c = cond_number (eqb (top p n) a && leb (p * n + b + 1) most) (p * n + b + 1) number e in
      let t : top p number ≡ b = ap (top p) (sym c.1) ∙ num_top p n b small in
      let r : rest p number ≡ n = ap (rest p) (sym c.1) ∙ num_rest p n b small in
      let d = both (eqb (top p n) a) (leb (p * n + b + 1) most) c.0 in
      (sym t, omega arith, sym (eqb-true (top p n) a d.0) ∙ sym (ap (top p) r), sym r)

  unwrap_source : (k : ℕ) → 1 ≤ n → move_number p most (suc (suc k)) a b n ≡ made number → Source p number (suc (suc k)) a b n
  unwrap_source k some e =
      let c = cond_number (eqb (top p n) b && (ltb 0 (rest p n) && eqb (top p (rest p n)) a)) (rest p n) number e in
      let d = both (eqb (top p n) b) (ltb 0 (rest p n) && eqb (top p (rest p n)) a) c.0 in
      let q = both (ltb 0 (rest p n)) (eqb (top p (rest p n)) a) d.1 in (
        sym (eqb-true (top p (rest p n)) a q.1) ∙ ap (top p) c.1,
        omega (arith, parts p n some, ap (λ (x : ℕ). p * x) c.1, eqb-true (top p n) b d.0),
      )

  pub source : (k : ℕ) → b < p → 1 ≤ n → move_number p most k a b n ≡ made number → Source p number k a b n
  source zero small some e = convert_source small some e
  source (suc zero) small some e = wrap_source small some e
  source (suc (suc k)) small some e = unwrap_source k some e

  -- no function makes a stack that has no number
  number_some : (k : ℕ) → move_number p most k a b n ≡ made number → 1 ≤ number
  number_some zero e = omega (arith, (cond_number (eqb (top p n) a) (p * rest p n + b + 1) number e).1)
  number_some (suc zero) e = omega (arith, (cond_number (eqb (top p n) a && leb (p * n + b + 1) most) (p * n + b + 1) number e).1)
  number_some (suc (suc k)) e =
      let c = cond_number (eqb (top p n) b && (ltb 0 (rest p n) && eqb (top p (rest p n)) a)) (rest p n) number e in
      let d = both (eqb (top p n) b) (ltb 0 (rest p n) && eqb (top p (rest p n)) a) c.0 in
      omega (arith, c.1, ltb-true 0 (rest p n) (both (ltb 0 (rest p n)) (eqb (top p (rest p n)) a) d.1).0)

  pub leads_back : (k : ℕ) → a < p → b < p → 1 ≤ number → number ≤ most → Source p number k a b n → move_number p most k a b n ≡ made number
  leads_back zero from to some low s =
      let t : top p n ≡ a = ap (top p) s.1 ∙ num_top p (rest p number) a from in
      let r : rest p n ≡ rest p number = ap (rest p) s.1 ∙ num_rest p (rest p number) a from in
      let e : p * rest p n + b + 1 ≡ number = omega (arith, ap (λ (x : ℕ). p * x) r, parts p number some, s.0) in
      simp (eq-eqb (top p n) a t) (ap made e)
  leads_back (suc zero) from to some low s =
      let t : top p n ≡ a = ap (top p) s.3 ∙ sym s.2 in
      let e : p * n + b + 1 ≡ number = omega (arith, ap (λ (x : ℕ). p * x) s.3, parts p number some, s.0) in
      simp (eq-eqb (top p n) a t, le-leb (p * n + b + 1) most (omega arith)) (ap made e)
  leads_back (suc (suc k)) from to some low s =
      let t : top p n ≡ b = ap (top p) s.1 ∙ num_top p number b to in
      let r : rest p n ≡ number = ap (rest p) s.1 ∙ num_rest p number b to in
      simp (eq-eqb (top p n) b t, lt-ltb 0 (rest p n) (omega arith), eq-eqb (top p (rest p n)) a (ap (top p) r ∙ sym s.0)) (ap made r)

-- one function at most: a wrap's stack is the lowest, then come the converts', then the unwraps'
module _ (p number : ℕ) (some_p : 1 ≤ p) (some : 1 ≤ number) where
  wraps_low : rest p number ≤ p * rest p number
  wraps_low = omega (arith, mul-le-mul_right (rest p number) some_p, one-mul (rest p number))

  unwraps_high : p * rest p number + p ≤ p * number
  unwraps_high =
      let more : suc (rest p number) ≤ number = omega (arith, wraps_low, parts p number some) in
      omega (arith, mul-suc p (rest p number), mul-le-mul_left p more)

  pub one_source : (k l a b c d n : ℕ) → k < 3 → l < 3 → a < p → c < p → Source p number k a b n → Source p number l c d n → 64 * k + 8 * a + b ≡ 64 * l + 8
      * c + d
  one_source zero zero a b c d n hk hl ha hc s u = omega arith
  one_source zero (suc zero) a b c d n hk hl ha hc s u = absurd (omega (arith, wraps_low))
  one_source zero (suc (suc l)) a b c d n hk hl ha hc s u = absurd (omega (arith, unwraps_high))
  one_source (suc zero) zero a b c d n hk hl ha hc s u = absurd (omega (arith, wraps_low))
  one_source (suc zero) (suc zero) a b c d n hk hl ha hc s u = omega arith
  one_source (suc zero) (suc (suc l)) a b c d n hk hl ha hc s u = absurd (omega (arith, wraps_low, unwraps_high))
  one_source (suc (suc k)) zero a b c d n hk hl ha hc s u = absurd (omega (arith, unwraps_high))
  one_source (suc (suc k)) (suc zero) a b c d n hk hl ha hc s u = absurd (omega (arith, wraps_low, unwraps_high))
  one_source (suc (suc k)) (suc (suc l)) a b c d n hk hl ha hc s u = omega arith

-- the same of `moved_of` and of a function's number
pub record Led (p most f n number : ℕ) : Type 0 where
  pub moves : Moves p most f n
  pub some : 1 ≤ number
  pub from_source : Source p number (kind_of f) (from_of f) (to_of f) n

module _ (p most f n number : ℕ) where
  pub led : moved_of p most f n ≡ made number → Led p most f n number
  led e =
      let c = cond_moved (ok_move p most f n) (move_number p most (kind_of f) (from_of f) (to_of f) n) number e in
      let o = moves p most f n c.0 in
      record {
        moves = o;
        some = number_some p most number n (from_of f) (to_of f) (kind_of f) c.1;
        from_source = source p most number n (from_of f) (to_of f) (kind_of f) o.parts.to o.number c.1;
      }

  pub moved_source : 1 ≤ p → p ≤ 8 → most ≤ 16384 → f < 192 → from_of f < p → to_of f < p → 1 ≤ n → n ≤ most → 1 ≤ number → number ≤ most
      → Source p number (kind_of f) (from_of f) (to_of f) n → moved_of p most f n ≡ made number
  unfolding ok_move
  moved_source some_p few bounded kind from to some low positive within s =
      simp (le-leb 1 p some_p, le-leb p 8 few, le-leb most 78536544840 (omega arith), le-leb 1 n some, le-leb n most low, ok_function_yes p f kind from to)
      (leads_back p most number n (from_of f) (to_of f) (kind_of f) from to positive within s)

-- a function's number from its parts
pub put_together : (f : ℕ) → f ≡ 64 * kind_of f + 8 * from_of f + to_of f
put_together f = let d : f / 8 / 8 ≡ f / 64 = omega arith in omega arith

pub one_function : (p most f g n number : ℕ) → moved_of p most f n ≡ made number → moved_of p most g n ≡ made number → f ≡ g
one_function p most f g n number e d =
    let x = led p most f n number e in
    let y = led p most g n number d in
    let q = one_source p number x.moves.some x.some (kind_of f) (kind_of g) (from_of f) (to_of f) (from_of g) (to_of g) n
    (omega (arith, x.moves.parts.kind)) (omega (arith, y.moves.parts.kind)) x.moves.parts.from y.moves.parts.from x.from_source y.from_source in
    put_together f ∙ q ∙ sym (put_together g)
