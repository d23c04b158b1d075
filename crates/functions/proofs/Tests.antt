-- What the tests of specs/ say as facts.
use Prim.Native.Nat.{ℕ, ◌/◌, ◌%◌, ◌≤◌, ◌<◌}
use native.Mathlib.Decide.{dec_lt}
use native.Mathlib.Omega.{arith}
use mathlib.Core.Path.{◌≡◌, refl, sym, ◌∙◌}
use mathlib.Core.Logic.{by_cases}
use mathlib.Core.Bool.{Bool, true, false, ◌&&◌, and_assoc, true≢false}
use lib.Dec.{leb, ltb}
use borrow.Author.Tests.{leb-true, ltb-true, lt-ltb, le-ltb, le-leb, lt-leb}
use Rattle.lists.proofs.Tests.{both, bool_cases}
use Rattle.functions.specs.Functions.{ok_function}
use Rattle.functions.specs.Answers.{ok_move}

-- a function on the protocols below p
pub record Function (p f : ℕ) : Type 0 where
  pub kind : f < 192
  pub from : f / 8 % 8 < p
  pub to : f % 8 < p

pub function : (p f : ℕ) → ok_function p f ≡ true → Function p f
unfolding ok_function
function p f ok =
    let q = both (ltb f 192) (ltb (f / 8 % 8) p && ltb (f % 8) p) ok in
    let r = both (ltb (f / 8 % 8) p) (ltb (f % 8) p) q.1 in
    record { kind = ltb-true f 192 q.0; from = ltb-true (f / 8 % 8) p r.0; to = ltb-true (f % 8) p r.1 }

pub ok_function_yes : (p f : ℕ) → f < 192 → f / 8 % 8 < p → f % 8 < p → ok_function p f ≡ true
unfolding ok_function
ok_function_yes p f kind from to = simp (lt-ltb f 192 kind, lt-ltb (f / 8 % 8) p from, lt-ltb (f % 8) p to)

-- p in range, and a function below it
pub record Ranged (p f : ℕ) : Type 0 where
  pub some : 1 ≤ p
  pub few : p ≤ 8
  pub parts : Function p f

pub ranged : (p f : ℕ) → (leb 1 p && (leb p 8 && ok_function p f)) ≡ true → Ranged p f
ranged p f ok =
    let q = both (leb 1 p) (leb p 8 && ok_function p f) ok in
    let r = both (leb p 8) (ok_function p f) q.1 in
    record { some = leb-true 1 p q.0; few = leb-true p 8 r.0; parts = function p f r.1 }

-- below no protocol there is no function, so that 1 ≤ p needs no test
pub in_range : (p f : ℕ) → ltb f 192 ≡ true → ((leb p 8 && ltb (f / 8 % 8) p) && ltb (f % 8) p) ≡ (leb 1 p && (leb p 8 && ok_function p f))
unfolding ok_function
in_range p f low = by_cases (dec_lt 0 p)
    (λ some. simp (le-leb 1 p some, low, and_assoc))
    (λ none. rw (lt-leb 1 p (omega arith), le-ltb (f % 8) p (omega arith)) (never (leb p 8 && ltb (f / 8 % 8) p)))
  where
    never : (x : Bool) → (x && false) ≡ false
    never true = refl
    never false = refl

pub past_all : (p f : ℕ) → ltb f 192 ≡ false → (leb 1 p && (leb p 8 && ok_function p f)) ≡ false
unfolding ok_function
past_all p f high = rw high (never (leb 1 p) (leb p 8))
  where
    never : (x y : Bool) → (x && (y && false)) ≡ false
    never true true = refl
    never true false = refl
    never false y = refl

-- what `moved` refuses nothing of
pub record Moves (p most f n : ℕ) : Type 0 where
  pub some : 1 ≤ p
  pub few : p ≤ 8
  pub bound : most ≤ 78536544840
  pub number : 1 ≤ n
  pub within_most : n ≤ most
  pub parts : Function p f

pub moves : (p most f n : ℕ) → ok_move p most f n ≡ true → Moves p most f n
unfolding ok_move
moves p most f n ok =
    let q = both (leb 1 p) (leb p 8 && (leb most 78536544840 && (leb 1 n && (leb n most && ok_function p f)))) ok in
    let r = both (leb p 8) (leb most 78536544840 && (leb 1 n && (leb n most && ok_function p f))) q.1 in
    let s = both (leb most 78536544840) (leb 1 n && (leb n most && ok_function p f)) r.1 in
    let t = both (leb 1 n) (leb n most && ok_function p f) s.1 in
    let u = both (leb n most) (ok_function p f) t.1 in
    record {
      some = leb-true 1 p q.0;
      few = leb-true p 8 r.0;
      bound = leb-true most 78536544840 s.0;
      number = leb-true 1 n t.0;
      within_most = leb-true n most u.0;
      parts = function p f u.1;
    }

-- the tests of `moved` in the order of the code
pub move_tests : (p most f n : ℕ) → (leb 1 p && (leb p 8 && ok_function p f)) ≡ true → ok_move p most f n ≡ ((leb most 78536544840 && leb 1 n) && leb n most)
unfolding ok_move
move_tests p most f n ok =
    let r = ranged p f ok in
    simp (le-leb 1 p r.some, le-leb p 8 r.few, ok_function_yes p f r.parts.kind r.parts.from r.parts.to) (grouped (leb most 78536544840) (leb 1 n) (leb n most))
  where
    grouped : (x y z : Bool) → (x && (y && (z && true))) ≡ ((x && y) && z)
    grouped true true true = refl
    grouped true true false = refl
    grouped true false z = refl
    grouped false y z = refl

pub no_move : (p most f n : ℕ) → (leb 1 p && (leb p 8 && ok_function p f)) ≡ false → ok_move p most f n ≡ false
no_move p most f n off = bool_cases (ok_move p most f n)
    (λ ok.
    let m = moves p most f n ok in
    let on : (leb 1 p && (leb p 8 && ok_function p f)) ≡ true = simp (
      le-leb 1 p m.some,
      le-leb p 8 m.few,
      ok_function_yes p f m.parts.kind m.parts.from
          m.parts.to,
    ) in
    absurd (true≢false (sym on ∙ off)))
    (λ e. e)
