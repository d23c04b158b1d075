-- `named` takes `refusal_number` back, and `refusal_number` takes `named` back of a number that stands in the list.
use Rattle.std.specs.Prelude.{ℕ, zero, suc, ◌≤◌, Bool, true, false, cond, ◌≡◌}
use native.Mathlib.Omega.{arith}
use mathlib.Core.Path.{refl}
use Rattle.lists.specs.Lists.{unless}
use Rattle.refusal.specs.declared.Refusal.{Refusal}
use Rattle.refusal.specs.Numbers.{refusal_number, number_or_none, named, refused_with}

pub named_number : (r : Refusal) → named (refusal_number r) ≡ r
named_number Refusal.Sizes = refl
named_number Refusal.Links = refl
named_number Refusal.Table = refl
named_number Refusal.Range = refl
named_number Refusal.NoMessage = refl
named_number Refusal.NoRoute = refl
named_number Refusal.Broken = refl
named_number Refusal.Limit = refl
named_number Refusal.NoRoom = refl
named_number Refusal.Short = refl
named_number Refusal.WrongVersion = refl
named_number Refusal.Header = refl
named_number Refusal.Beyond = refl
named_number Refusal.Checksum = refl
named_number Refusal.Fragment = refl
named_number Refusal.Higher = refl

-- a number that stands in the list of refusals
abbrev pub Listed : ℕ → Type 0
Listed k = refusal_number (named k) ≡ k

-- of a call that tells its refusal beside other numbers: the ten smallest, of which 0 is none
pub few_kept : (k : ℕ) → k ≤ 9 → number_or_none (refused_with k) ≡ k
few_kept zero most = refl
few_kept (suc zero) most = refl
few_kept (suc (suc zero)) most = refl
few_kept (suc (suc (suc zero))) most = refl
few_kept (suc (suc (suc (suc zero)))) most = refl
few_kept (suc (suc (suc (suc (suc zero))))) most = refl
few_kept (suc (suc (suc (suc (suc (suc zero)))))) most = refl
few_kept (suc (suc (suc (suc (suc (suc (suc zero))))))) most = refl
few_kept (suc (suc (suc (suc (suc (suc (suc (suc zero)))))))) most = refl
few_kept (suc (suc (suc (suc (suc (suc (suc (suc (suc zero))))))))) most = refl
few_kept (suc (suc (suc (suc (suc (suc (suc (suc (suc (suc k)))))))))) most = absurd (omega arith)

-- what comes of tests in turn is in the list if each number on the way is, and 0 stands for none
abbrev pub ListedOrNone : ℕ → Type 0
ListedOrNone k = (k ≡ 0 → ⊥) → Listed k

pub none_listed : ListedOrNone 0
none_listed some = absurd (some refl)

pub unless_listed : (holds : Bool) (k next : ℕ) → Listed k → ListedOrNone next → ListedOrNone (unless holds k next)
unless_listed true k next here rest = rest
unless_listed false k next here rest = λ some. here

pub cond_listed : (b : Bool) (j k : ℕ) → ListedOrNone j → ListedOrNone k → ListedOrNone (cond b j k)
cond_listed true j k l m = l
cond_listed false j k l m = m
