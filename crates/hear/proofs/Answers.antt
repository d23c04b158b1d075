-- What `hear` answers where it refuses and where it does not, over plain variables.
use Prim.Native.Nat.{ℕ, ◌+◌, ◌*◌, ◌≤◌, ◌<◌}
use native.Mathlib.Nat.{mul-le-mul}
use native.Mathlib.Omega.{arith}
use mathlib.Core.Path.{◌≡◌, refl, sym, ◌∙◌}
use mathlib.Core.Bool.{Bool, true, false, ◌&&◌, and_assoc, and-false}
use lib.ListN.{length}
use lib.Dec.{leb, ltb, eqb}
use mir.Syntax.{w64}
use mir.Val.{Fits}
use borrow.Author.Tests.{leb-true, ltb-true, eqb-true}
use Rattle.lists.specs.Lists.{unless}
use Rattle.lists.proofs.Tests.{both}
use Rattle.hear.specs.Hearing.{Gateway, Message, Rows, heard, taken}
use Rattle.hear.specs.Answers.{good_numbers, good_lengths, ok_hearing, ceiling, refused_by, hear_refusal, rows_after, Hears}
use Rattle.std.specs.Prelude.{Ok, Err}
use Rattle.refusal.specs.Numbers.{named}

-- ---- the tests as facts
pub record Numbers (p most sender destination number : ℕ) : Type 0 where
  pub some : 1 ≤ p
  pub few : p ≤ 8
  pub bounded : most ≤ 16384
  pub sends : sender < 32
  pub known : destination < 32
  pub numbered : 1 ≤ number
  pub within : number ≤ most

pub numbers : (p most sender destination number : ℕ) → good_numbers p most sender destination number ≡ true → Numbers p most sender destination number
numbers p most sender destination number e =
    let s = both (leb 1 p) (leb p 8 && (leb most 16384 && (ltb sender 32 && (ltb destination 32 && (leb 1 number && leb number most))))) e in
    let t = both (leb p 8) (leb most 16384 && (ltb sender 32 && (ltb destination 32 && (leb 1 number && leb number most)))) s.1 in
    let u = both (leb most 16384) (ltb sender 32 && (ltb destination 32 && (leb 1 number && leb number most))) t.1 in
    let v = both (ltb sender 32) (ltb destination 32 && (leb 1 number && leb number most)) u.1 in
    let w = both (ltb destination 32) (leb 1 number && leb number most) v.1 in
    let x = both (leb 1 number) (leb number most) w.1 in
    record {
      some = leb-true 1 p s.0;
      few = leb-true p 8 t.0;
      bounded = leb-true most 16384 u.0;
      sends = ltb-true sender 32 v.0;
      known = ltb-true destination 32 w.0;
      numbered = leb-true 1 number x.0;
      within = leb-true number most x.1;
    }

module _ {p most sender destination number : ℕ} (n : Numbers p most sender destination number) where
  pub next_fits : Fits w64 (destination + 1)
  next_fits = omega (arith, n.known)

  pub rows_fit : Fits w64 ((destination + 1) * most)
  rows_fit =
      let wide = mul-le-mul {n₁ = destination + 1} {m₁ = most} {n₂ = 32} {m₂ = 16384} (omega (arith, n.known)) n.bounded in
      omega arith

-- the rows are long enough, and the cost is no more than the ceiling
pub record Lengths (most destination cost costs ways waiting : ℕ) : Type 0 where
  pub wide : (destination + 1) * most ≤ costs
  pub ways_long : ways ≡ costs
  pub waiting_long : waiting ≡ costs
  pub priced : cost ≤ ceiling

-- ---- what `refusal_of` answers at each of its returns
module _ (p most sender destination number cost costs ways waiting : ℕ) where
  -- the code's tests of the numbers and of the lengths
  abbrev pub test_numbers : Bool
  test_numbers = (((((leb 1 p && leb p 8) && leb most 16384) && ltb sender 32) && ltb destination 32) && leb 1 number) && leb number most

  abbrev pub test_lengths : Bool
  test_lengths = (leb ((destination + 1) * most) costs && eqb ways costs) && eqb waiting costs

  numbers_same : test_numbers ≡ good_numbers p most sender destination number
  numbers_same = simp and_assoc

  lengths_same : test_lengths ≡ good_lengths most destination costs ways waiting
  lengths_same = simp and_assoc

  pub numbered : test_numbers ≡ true → Numbers p most sender destination number
  numbered e = numbers p most sender destination number (sym numbers_same ∙ e)

  abbrev answer : ℕ
  answer = refused_by p most sender destination number cost costs ways waiting

  pub wrong_numbers : test_numbers ≡ false → 4 ≡ answer
  unfolding ok_hearing
  wrong_numbers e = simp (sym numbers_same ∙ e)

  pub wrong_lengths : test_lengths ≡ false → 4 ≡ answer
  unfolding ok_hearing
  wrong_lengths e = simp (sym lengths_same ∙ e, and-false)

  module _ (e : test_numbers ≡ true) (e' : test_lengths ≡ true) where
    pub dear : leb cost ceiling ≡ false → 7 ≡ answer
    unfolding ok_hearing
    dear e'' = simp (sym numbers_same ∙ e, sym lengths_same ∙ e', e'')

    pub cheap : leb cost ceiling ≡ true → 0 ≡ answer
    unfolding ok_hearing
    cheap e'' = simp (sym numbers_same ∙ e, sym lengths_same ∙ e', e'')

no_refusal : (a b : Bool) → unless a 4 (unless b 7 0) ≡ 0 → (a ≡ true) × (b ≡ true)
no_refusal true true e = (refl, refl)
no_refusal true false e = absurd (omega arith)
no_refusal false b e = absurd (omega arith)

module _ (g : Gateway) (m : Message) (r : Rows) where
  pub record Passed : Type 0 where
    pub numbers_good : Numbers g.p g.most m.sender m.destination m.number
    pub lengths_good : Lengths g.most m.destination m.cost (length r.costs) (length r.ways) (length r.waiting)

  abbrev pub refused : ℕ
  refused = refused_by g.p g.most m.sender m.destination m.number m.cost (length r.costs) (length r.ways) (length r.waiting)

  pub passed : refused ≡ 0 → Passed
  unfolding ok_hearing
  passed e =
      let a = no_refusal (good_numbers g.p g.most m.sender m.destination m.number
      && (leb ((m.destination + 1) * g.most) (length r.costs) && (eqb (length r.ways) (length r.costs) && eqb (length r.waiting) (length r.costs))))
      (leb m.cost ceiling) e in
      let b = both (good_numbers g.p g.most m.sender m.destination m.number)
      (leb ((m.destination + 1) * g.most) (length r.costs) && (eqb (length r.ways) (length r.costs) && eqb (length r.waiting) (length r.costs))) a.0 in
      let d = both (leb ((m.destination + 1) * g.most) (length r.costs)) (eqb (length r.ways) (length r.costs) && eqb (length r.waiting) (length r.costs))
      b.1 in
      let t = both (eqb (length r.ways) (length r.costs)) (eqb (length r.waiting) (length r.costs)) d.1 in
      record {
        numbers_good = numbers g.p g.most m.sender m.destination m.number b.0;
        lengths_good = record {
          wide = leb-true ((m.destination + 1) * g.most) (length r.costs) d.0;
          ways_long = eqb-true (length r.ways) (length r.costs) t.0;
          waiting_long = eqb-true (length r.waiting) (length r.costs) t.1;
          priced = leb-true m.cost ceiling a.1;
        };
      }

  refusal_same : hear_refusal g m r ≡ refused
  unfolding hear_refusal
  refusal_same = refl

  pub refuses : eqb refused 0 ≡ false → Hears g m r (Err (named refused)) r
  unfolding rows_after
  refuses off = record {
    answers = simp (refusal_same, off);
    costs = simp (refusal_same, off);
    ways = simp (refusal_same, off);
    waiting = simp (refusal_same, off);
  }

  pub finished : (count : ℕ) (s : Rows) → refused ≡ 0 → count ≡ taken g m r → s ≡ heard g m r → Hears g m r (Ok count) s
  unfolding rows_after
  finished count s e counted e' =
      let is : hear_refusal g m r ≡ 0 = refusal_same ∙ e in
      record {
        answers = simp (is, counted);
        costs = simp (is, e');
        ways = simp (is, e');
        waiting = simp (is, e');
      }
