-- What `offer_of` answers at each of its returns, and that no number wraps, over plain variables.
use Prim.Native.Nat.{ℕ, ◌+◌, ◌-◌, ◌*◌, ◌≤◌, ◌<◌}
use native.Mathlib.Nat.{mul-le-mul}
use native.Mathlib.Omega.{arith}
use mathlib.Core.Path.{◌≡◌, sym, ap, ◌∙◌}
use mathlib.Core.Bool.{Bool, true, false, ◌&&◌, and_assoc}
use lib.Dec.{leb, ltb}
use mir.Syntax.{w16, w32, w64}
use mir.Val.{Fits}
use borrow.Author.Tests.{ltb-true, leb-true}
use Rattle.std.specs.Prelude.{Some, None}
use Rattle.lists.proofs.Tests.{both}
use Rattle.hear.specs.Steps.{place_of, offer_of, Priced}
use Rattle.functions.specs.Parts.{kind_number}
use Rattle.functions.proofs.Parts.{kind_low}
use Rattle.hear.specs.declared.Candidate.{Candidate}

module _ (most word : ℕ) (c : Candidate) where
  -- the gateway can, and there is such a row
  abbrev test : Bool
  test = ltb 0 word && (leb 1 c.source && leb c.source most)

  abbrev tested : Bool
  tested = (ltb 0 word && leb 1 c.source) && leb c.source most

  same : tested ≡ test
  same = simp and_assoc

  pub record Makes : Type 0 where
    pub has : 0 < word
    pub some : 1 ≤ c.source
    pub low : c.source ≤ most

  pub makes : tested ≡ true → Makes
  makes e =
      let a = both (ltb 0 word) (leb 1 c.source && leb c.source most) (sym same ∙ e) in
      let b = both (leb 1 c.source) (leb c.source most) a.1 in
      record { has = ltb-true 0 word a.0; some = leb-true 1 c.source b.0; low = leb-true c.source most b.1 }

  module _ (sender destination cost link : ℕ) where
    pub none : tested ≡ false → None ≡ offer_of most sender destination cost link word c
    unfolding offer_of
    none e = simp (sym same ∙ e)

    pub made : (k : ℕ) → k ≡ kind_number c.function.kind → tested ≡ true
        → Some (record {
          place = place_of most destination c.source;
          cost = cost + link + (word - 1);
          way = 256 * sender + 64 * k + 8 * c.function.a + c.function.b;
        })
        ≡ offer_of most sender destination cost link word c
    unfolding offer_of
    made k is e =
        simp (sym same ∙ e)
        (ap (λ (y : ℕ). Some (record { place = place_of most destination c.source; cost = cost + link + (word - 1); way = y })) (omega arith))

-- the numbers on the way to the place, to the cost and to the way
pub record OfferFits (most sender destination cost link word k : ℕ) (c : Candidate) : Type 0 where
  pub rows : Fits w64 (destination * most)
  pub place : c.source ≤ most → Fits w64 (destination * most + (c.source - 1))
  pub linked : Fits w32 (cost + link)
  pub costs : Fits w32 (cost + link + (word - 1))
  pub sent : Fits w64 (256 * sender)
  pub kind : Fits w64 (64 * k)
  pub kinds : Fits w64 (256 * sender + 64 * k)
  pub first : Fits w64 (8 * c.function.a)
  pub firsts : Fits w64 (256 * sender + 64 * k + 8 * c.function.a)
  pub seconds : Fits w64 (256 * sender + 64 * k + 8 * c.function.a + c.function.b)
  pub way : Fits w16 (256 * sender + 64 * k + 8 * c.function.a + c.function.b)

pub offer_fits : (most sender destination cost link word k : ℕ) (c : Candidate) → Priced most sender destination cost c → Fits w16 link → Fits w16 word
    → k ≡ kind_number c.function.kind → OfferFits most sender destination cost link word k c
offer_fits most sender destination cost link word k c q l w is =
    let low : k < 3 = omega (arith, is, kind_low c.function.kind) in
    let rows = mul-le-mul {n₁ = destination} {m₁ = most} {n₂ = 32} {m₂ = 16384} (omega arith) q.bounded in
    record {
      rows = omega arith;
      place = λ low. omega arith;
      linked = omega arith;
      costs = omega arith;
      sent = omega arith;
      kind = omega arith;
      kinds = omega arith;
      first = omega arith;
      firsts = omega arith;
      seconds = omega arith;
      way = omega arith;
    }
