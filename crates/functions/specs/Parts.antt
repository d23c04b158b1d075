-- A function taken apart, and put together again.
use Rattle.std.specs.Prelude.{ℕ, zero, suc, ◌+◌, ◌*◌, ◌≡◌, cond, ltb, Result, Ok, Err}
use Rattle.refusal.specs.declared.Refusal.{Refusal}
use Rattle.functions.specs.Functions.{kind_of, from_of, to_of}
use Rattle.functions.specs.declared.Kind.{Kind}
use Rattle.functions.specs.declared.Function.{Function}

-- "kinds 0, 1, 2" (no function has a higher kind: ok_function)
abbrev pub kind_at : ℕ → Kind
kind_at zero = Kind.Convert
kind_at (suc zero) = Kind.Wrap
kind_at (suc (suc k)) = Kind.Unwrap

abbrev pub kind_number : Kind → ℕ
kind_number Kind.Convert = 0
kind_number Kind.Wrap = 1
kind_number Kind.Unwrap = 2

-- the number that a conversion gives
abbrev pub IsKindNumber : Kind → ℕ → Type 0
IsKindNumber kind n = n ≡ kind_number kind

abbrev pub function_of : ℕ → Function
function_of f = record { kind = kind_at (kind_of f); a = from_of f; b = to_of f }

-- the function that a conversion gives, if the number is one's
abbrev pub IsFunctionOf : ℕ → Result Function Refusal → Type 0
IsFunctionOf f r = r ≡ cond (ltb f 192) (Ok (function_of f)) (Err Refusal.Range)

-- the number of the inverse
abbrev pub inverse_of_kind : Kind → ℕ → ℕ → ℕ
inverse_of_kind Kind.Convert a b = 8 * b + a
inverse_of_kind Kind.Wrap a b = 128 + 8 * a + b
inverse_of_kind Kind.Unwrap a b = 64 + 8 * a + b

abbrev pub inverse_by : Function → ℕ
inverse_by f = inverse_of_kind f.kind f.a f.b
