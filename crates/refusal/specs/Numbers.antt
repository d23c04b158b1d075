-- The part "Refusal numbers" of the specification, and those of request Six (61 to 67).
use Rattle.std.specs.Prelude.{ℕ, cond, eqb, ◌≡◌, Option, None, Some, Result, Ok, Err}
use Rattle.refusal.specs.declared.Refusal.{Refusal}

-- the number of a refusal
abbrev pub refusal_number : Refusal → ℕ
refusal_number Refusal.Sizes = 1
refusal_number Refusal.Links = 2
refusal_number Refusal.Table = 3
refusal_number Refusal.Range = 4
refusal_number Refusal.NoMessage = 5
refusal_number Refusal.NoRoute = 6
refusal_number Refusal.Broken = 7
refusal_number Refusal.Limit = 8
refusal_number Refusal.NoRoom = 9
refusal_number Refusal.Short = 61
refusal_number Refusal.WrongVersion = 62
refusal_number Refusal.Header = 63
refusal_number Refusal.Beyond = 64
refusal_number Refusal.Checksum = 65
refusal_number Refusal.Fragment = 66
refusal_number Refusal.Higher = 67

-- the number that a conversion gives
abbrev pub IsNumberOf : Refusal → ℕ → Type 0
IsNumberOf refusal n = n ≡ refusal_number refusal

-- of a call that may be refused: the number, 0 where it is not
abbrev pub number_or_none : Option Refusal → ℕ
number_or_none None = 0
number_or_none (Some refusal) = refusal_number refusal

-- The refusal that has a number, so that a definition can say which number is given first. (No call is refused with a number that stands in no line:
-- `Listed` of proofs/Named.antt says it of a number, and laws named `.._listed` and `few_kept` of what the calls are refused with.)
abbrev pub named : ℕ → Refusal
named k =
    cond (eqb k 1) Refusal.Sizes (cond (eqb k 2) Refusal.Links (cond (eqb k 3) Refusal.Table (cond (eqb k 4) Refusal.Range
    (cond (eqb k 5) Refusal.NoMessage (cond (eqb k 6) Refusal.NoRoute (cond (eqb k 7) Refusal.Broken (cond (eqb k 8) Refusal.Limit
    (cond (eqb k 61) Refusal.Short (cond (eqb k 62) Refusal.WrongVersion (cond (eqb k 63) Refusal.Header (cond (eqb k 64) Refusal.Beyond
    (cond (eqb k 65) Refusal.Checksum (cond (eqb k 66) Refusal.Fragment (cond (eqb k 67) Refusal.Higher Refusal.NoRoom))))))))))))))

-- what a call answers that is refused with this number, 0 where it is not
abbrev pub answered : {A : Type 0} → ℕ → A → Result A Refusal
answered r x = cond (eqb r 0) (Ok x) (Err (named r))

-- the refusal that an answer tells of beside other numbers: none for 0
abbrev pub refused_with : ℕ → Option Refusal
refused_with r = cond (eqb r 0) None (Some (named r))
