-- A function by its parts is the function of its number.
use Prim.Native.Nat.{ℕ, zero, suc, ◌/◌, ◌<◌}
use mathlib.Core.Path.{◌≡◌, refl}
use native.Mathlib.Omega.{arith}
use Rattle.functions.specs.declared.Kind.{Kind}
use Rattle.functions.specs.Functions.{from_of, to_of, inverse_at, inverse}
use Rattle.functions.specs.Answers.{move_number}
use Rattle.functions.specs.Parts.{kind_at, kind_number, function_of, inverse_by}

-- each kind from 2 on unwraps
pub move_kind : (p most k a b n : ℕ) → move_number p most (kind_number (kind_at k)) a b n ≡ move_number p most k a b n
move_kind p most zero a b n = refl
move_kind p most (suc zero) a b n = refl
move_kind p most (suc (suc k)) a b n = refl

pub kind_back : (k : ℕ) → k < 3 → kind_number (kind_at k) ≡ k
kind_back zero low = refl
kind_back (suc zero) low = refl
kind_back (suc (suc k)) low = omega arith

pub kind_low : (kind : Kind) → kind_number kind < 3
kind_low Kind.Convert = omega arith
kind_low Kind.Wrap = omega arith
kind_low Kind.Unwrap = omega arith

pub inverse_parts : (f : ℕ) → f < 192 → inverse_by (function_of f) ≡ inverse f
inverse_parts f low = go (f / 64) (omega arith) (omega arith)
  where
    go : (k : ℕ) → f / 64 ≡ k → k < 3 → inverse_by (record { kind = kind_at k; a = from_of f; b = to_of f }) ≡ inverse_at k f
    go zero is h = omega arith
    go (suc zero) is h = omega arith
    go (suc (suc zero)) is h = omega arith
    go (suc (suc (suc k))) is h = absurd (omega arith)
