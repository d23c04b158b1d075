-- A refusal is read back as it was, and what is none is no refusal.
use Prim.Native.Nat.{ℕ, zero, suc, ◌^◌, ◌≤◌, ◌<◌}
use native.Mathlib.Omega.{arith}
use mathlib.Core.Path.{◌≡◌, refl, sym, ap, ◌∙◌}
use mathlib.Core.Bool.{cond}
use lib.Dec.{eqb}
use borrow.Author.Tests.{eq-eqb, ne_eqb}
use Rattle.std.specs.Prelude.{Result, Err}
use Rattle.refusal.specs.declared.Refusal.{Refusal}
use Rattle.refusal.specs.Numbers.{refusal_number, named}
use Rattle.refusal.proofs.Named.{named_number}
use Rattle.packing.specs.Packing.{pack_refused, pack_end, is_refused, refusal_in, end_in}
use Rattle.packing.specs.Ranges.{RefusalFits}

refused_top : (r : ℕ) → RefusalFits r → is_refused (pack_refused r) ≡ 1
refused_top r f = omega (arith, f.most)

refused_low : (r : ℕ) → RefusalFits r → refusal_in (pack_refused r) ≡ r
refused_low r f = omega (arith, f.most)

pub refusal_read : {A : Type 0} (r : ℕ) → RefusalFits r → (a : A) (refused : ℕ → A)
    → cond (eqb (is_refused (pack_refused r)) 0) a (refused (refusal_in (pack_refused r))) ≡ refused r
refusal_read r f a refused =
    ap (λ b. cond b a (refused (refusal_in (pack_refused r)))) (ne_eqb (is_refused (pack_refused r)) 0 (λ e. omega (arith, e, refused_top r f)))
    ∙ ap refused (refused_low r f)

-- every refusal's number is within the range, so a refused answer is read back as it was
pub number_fits : (r : Refusal) → RefusalFits (refusal_number r)
number_fits Refusal.Sizes = record { some = omega arith; most = omega arith }
number_fits Refusal.Links = record { some = omega arith; most = omega arith }
number_fits Refusal.Table = record { some = omega arith; most = omega arith }
number_fits Refusal.Range = record { some = omega arith; most = omega arith }
number_fits Refusal.NoMessage = record { some = omega arith; most = omega arith }
number_fits Refusal.NoRoute = record { some = omega arith; most = omega arith }
number_fits Refusal.Broken = record { some = omega arith; most = omega arith }
number_fits Refusal.Limit = record { some = omega arith; most = omega arith }
number_fits Refusal.NoRoom = record { some = omega arith; most = omega arith }
number_fits Refusal.Short = record { some = omega arith; most = omega arith }
number_fits Refusal.WrongVersion = record { some = omega arith; most = omega arith }
number_fits Refusal.Header = record { some = omega arith; most = omega arith }
number_fits Refusal.Beyond = record { some = omega arith; most = omega arith }
number_fits Refusal.Checksum = record { some = omega arith; most = omega arith }
number_fits Refusal.Fragment = record { some = omega arith; most = omega arith }
number_fits Refusal.Higher = record { some = omega arith; most = omega arith }

pub refused_back : {A : Type 0} (r : Refusal) (a : Result A Refusal)
    → cond (eqb (is_refused (pack_refused (refusal_number r))) 0) a (Err (named (refusal_in (pack_refused (refusal_number r))))) ≡ Err r
refused_back r a = refusal_read (refusal_number r) (number_fits r) a (λ k. Err (named k)) ∙ ap Err (named_number r)

pub value_read : {A : Type 0} (x : ℕ) → x < 2 ^ 63 → (a b : A) → cond (eqb (is_refused x) 0) a b ≡ a
value_read x h a b = let e : is_refused x ≡ 0 = omega arith in ap (λ t. cond t a b) (eq-eqb (is_refused x) 0 e)

-- how a call ended is the refusal's own number, or 0
end_some : (r : ℕ) → pack_end (suc r) ≡ pack_refused (suc r)
end_some r = ap (λ b. cond b 0 (pack_refused (suc r))) (ne_eqb (suc r) 0 (λ z. omega (arith, z)))

pub end_read : (r : ℕ) → r ≤ 67 → (is_refused (pack_end r) ≡ 0 → r ≡ 0) × (refusal_in (pack_end r) ≡ r)
end_read zero h = (λ e. refl, refl)
end_read (suc r) h = let e = end_some r in (λ z. omega (arith, z, e), omega (arith, e))

pub end_back : (r : ℕ) → r ≤ 67 → end_in (pack_end r) ≡ r
end_back zero h = refl
end_back (suc r) h = ap end_in (end_some r) ∙ refusal_read (suc r) (record { some = omega arith; most = h }) 0 (λ (q : ℕ). q)

-- what is read back has its own number: different answers have different numbers
pub apart : {A : Type 0} (pack : A → ℕ) (unpack : ℕ → A) (a b : A) → unpack (pack a) ≡ a → unpack (pack b) ≡ b → pack a ≡ pack b → a ≡ b
apart pack unpack a b p q e = sym p ∙ ap unpack e ∙ q
