-- The tests of `step` as facts, and that its sums fit where they all hold.
use Prim.Native.Nat.{ℕ, ◌+◌, ◌-◌, ◌*◌, ◌≤◌, ◌<◌}
use native.Mathlib.Nat.{mul-le-mul, mul-le-mul_right, suc-mul}
use native.Mathlib.Omega.{arith}
use mathlib.Core.Path.{◌≡◌, sym, ap, ◌∙◌}
use mathlib.Core.List.{List}
use mathlib.Core.Bool.{Bool, true, ◌&&◌, and_assoc}
use lib.Arith.{digits_lt}
use lib.ListN.{length, get_or, drop, length-take, length-drop}
use lib.Seq.{get_or-take, get_or-drop}
use lib.Dec.{leb, ltb, eqb}
use mir.Syntax.{w64}
use mir.Val.{Fits}
use borrow.Author.Tests.{ltb-true, leb-true, eqb-true}
use borrow.Rule.Slice.PartMut.{mid_of}
use Rattle.lists.proofs.Tests.{both}
use Rattle.table.specs.Answers.{ok_message_in}
use Rattle.step.specs.Step.{ok_rows}

-- ---- the tests as facts
pub record Sizes (n p s costs ways waits : ℕ) : Type 0 where
  pub some : 1 ≤ p
  pub few : p ≤ 8
  pub nodes : n ≤ 32
  pub bounded : s ≤ 16384
  pub costs_are : costs ≡ n * (n * s)
  pub ways_are : ways ≡ n * (n * s)
  pub waits_are : waits ≡ n * (n * s)

pub sizes : (n p s costs ways waits : ℕ) → ok_rows n p s costs ways waits ≡ true → Sizes n p s costs ways waits
unfolding ok_rows
sizes n p s costs ways waits e =
    let a = both (leb 1 p) (leb p 8 && (leb n 32 && (leb s 16384 && (eqb costs (n * (n * s)) && (eqb ways (n * (n * s)) && eqb waits (n * (n * s))))))) e in
    let b = both (leb p 8) (leb n 32 && (leb s 16384 && (eqb costs (n * (n * s)) && (eqb ways (n * (n * s)) && eqb waits (n * (n * s)))))) a.1 in
    let c = both (leb n 32) (leb s 16384 && (eqb costs (n * (n * s)) && (eqb ways (n * (n * s)) && eqb waits (n * (n * s))))) b.1 in
    let d = both (leb s 16384) (eqb costs (n * (n * s)) && (eqb ways (n * (n * s)) && eqb waits (n * (n * s)))) c.1 in
    let f = both (eqb costs (n * (n * s))) (eqb ways (n * (n * s)) && eqb waits (n * (n * s))) d.1 in
    let g = both (eqb ways (n * (n * s))) (eqb waits (n * (n * s))) f.1 in
    record {
      some = leb-true 1 p a.0;
      few = leb-true p 8 b.0;
      nodes = leb-true n 32 c.0;
      bounded = leb-true s 16384 d.0;
      costs_are = eqb-true costs (n * (n * s)) f.0;
      ways_are = eqb-true ways (n * (n * s)) g.0;
      waits_are = eqb-true waits (n * (n * s)) g.1;
    }

-- the code's tests of the sizes: first those that bound the rows, then those of the lengths
module _ (n p s costs ways waits : ℕ) where
  abbrev bounds : Bool
  bounds = ((leb 1 p && leb p 8) && leb n 32) && leb s 16384

  abbrev lengths : Bool
  lengths = (eqb costs (n * (n * s)) && eqb ways (n * (n * s))) && eqb waits (n * (n * s))

  pub sizes_by : (b : Bool) → bounds ≡ b → (b && lengths) ≡ ok_rows n p s costs ways waits
  unfolding ok_rows
  sizes_by b e = ap (λ (x : Bool). x && lengths) (sym e) ∙ simp and_assoc

  pub rows_fit : bounds ≡ true → Fits w64 (n * s) × Fits w64 (n * (n * s))
  rows_fit e =
      let a = both ((leb 1 p && leb p 8) && leb n 32) (leb s 16384) e in
      let nodes = leb-true n 32 (both (leb 1 p && leb p 8) (leb n 32) a.0).1 in
      let each : n * s ≤ 524288 = omega (arith, mul-le-mul nodes (leb-true s 16384 a.1)) in
      (omega arith, omega (arith, mul-le-mul nodes each))

-- and of the numbers
pub numbers_same : (n s Q U D N : ℕ) → ((((ltb Q n && ltb U n) && ltb D n) && leb 1 N) && leb N s) ≡ ok_message_in n s Q U D N
unfolding ok_message_in
numbers_same n s Q U D N = simp and_assoc

pub record Numbers (n s Q U D N : ℕ) : Type 0 where
  pub sends : Q < n
  pub hears : U < n
  pub known : D < n
  pub numbered : 1 ≤ N
  pub within : N ≤ s

pub numbers : (n s Q U D N : ℕ) → ok_message_in n s Q U D N ≡ true → Numbers n s Q U D N
unfolding ok_message_in
numbers n s Q U D N e =
    let a = both (ltb Q n) (ltb U n && (ltb D n && (leb 1 N && leb N s))) e in
    let b = both (ltb U n) (ltb D n && (leb 1 N && leb N s)) a.1 in
    let c = both (ltb D n) (leb 1 N && leb N s) b.1 in
    let d = both (leb 1 N) (leb N s) c.1 in
    record {
      sends = ltb-true Q n a.0;
      hears = ltb-true U n b.0;
      known = ltb-true D n c.0;
      numbered = leb-true 1 N d.0;
      within = leb-true N s d.1;
    }

-- ---- the sums of the code fit, the parts of sender and receiver are within the table, and the row is within the sender's
pub record Room (n s Q U D N : ℕ) : Type 0 where
  pub each : n * s ≤ 524288
  pub all : n * (n * s) ≤ 16777216
  pub sends : Q * (n * s) + n * s ≤ n * (n * s)
  pub hears : U * (n * s) + n * s ≤ n * (n * s)
  pub inner : D * s + (N - 1) < n * s
  pub numbered : 1 ≤ N

pub room : (n p s costs ways waits Q U D N : ℕ) → Sizes n p s costs ways waits → Numbers n s Q U D N → Room n s Q U D N
room n p s costs ways waits Q U D N z k =
    let each : n * s ≤ 524288 = omega (arith, mul-le-mul z.nodes z.bounded) in
    let low : N - 1 < s = omega (arith, k.numbered, k.within) in
    record {
      each = each;
      all = omega (arith, mul-le-mul z.nodes each);
      sends = part_within Q k.sends;
      hears = part_within U k.hears;
      inner = digits_lt k.known low;
      numbered = k.numbered;
    }
  where
    part_within : (W : ℕ) → W < n → W * (n * s) + n * s ≤ n * (n * s)
    part_within W b = omega (arith, mul-le-mul_right (n * s) b, suc-mul W (n * s))

-- the same in the shapes that `read_row` asks for
pub record Reads (n s Q D N costs waits : ℕ) : Type 0 where
  pub rows : Fits w64 (n * s)
  pub start : Fits w64 (Q * (n * s))
  pub end : Fits w64 (Q * (n * s) + n * s)
  pub block : Fits w64 (D * s)
  pub numbered : 1 ≤ N
  pub row : Fits w64 (D * s + (N - 1))
  pub place : Fits w64 (Q * (n * s) + (D * s + (N - 1)))
  pub place_bytes : Fits w64 ((Q * (n * s) + (D * s + (N - 1))) * 4)
  pub inside : Q * (n * s) + (D * s + (N - 1)) < waits
  pub start_bytes : Fits w64 (Q * (n * s) * 4)
  pub ends : Q * (n * s) + n * s ≤ costs
  pub low : D * s + (N - 1) < Q * (n * s) + n * s - Q * (n * s)

pub reads : (n p s costs ways waits Q U D N : ℕ) → ok_rows n p s costs ways waits ≡ true → ok_message_in n s Q U D N ≡ true → Reads n s Q D N costs waits
reads n p s costs ways waits Q U D N e g =
    let z = sizes n p s costs ways waits e in
    let r = room n p s costs ways waits Q U D N z (numbers n s Q U D N g) in
    record {
      rows = omega arith;
      start = omega arith;
      end = omega arith;
      block = omega arith;
      numbered = r.numbered;
      row = omega arith;
      place = omega arith;
      place_bytes = omega arith;
      inside = omega arith;
      start_bytes = omega arith;
      ends = omega arith;
      low = omega arith;
    }

-- what a part's start and end come to
pub length_of : (from k : ℕ) → from + k - from ≡ k
length_of from k = omega arith

pub in_part : (xs : List ℕ) (from k i : ℕ) → from + k ≤ length xs → i < from + k - from → i < length (mid_of from (from + k - from) xs)
in_part xs from k i ends low = simp (length-take, length-drop) (omega arith)

-- an element of a part, read in the whole
pub in_whole : (xs : List ℕ) (from k i : ℕ) → i < k → get_or (mid_of from k xs) i 0 ≡ get_or xs (from + i) 0
in_whole xs from k i low = get_or-take k (drop from xs) i 0 low ∙ get_or-drop from xs i 0
