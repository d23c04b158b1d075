-- Worked examples, by computation: protocols a = 0 and b = 1. (P12 of the specification is in crate examples.)
use Prim.Native.Nat.{ℕ, ◌+◌, ◌*◌}
use mathlib.Core.Path.{◌≡◌, refl}
use mathlib.Core.List.{[], ◌∷◌}
use Rattle.functions.specs.Functions.{apply, becomes, cannot, inverse}

abbrev a : ℕ
a = 0

abbrev b : ℕ
b = 1

-- the numbers of four functions
abbrev wrap_a_in_b : ℕ
wrap_a_in_b = 64 + 8 * a + b

abbrev wrap_b_in_a : ℕ
wrap_b_in_a = 64 + 8 * b + a

abbrev unwrap_a_from_b : ℕ
unwrap_a_from_b = 128 + 8 * a + b

abbrev convert_b_to_a : ℕ
convert_b_to_a = 8 * b + a

-- the top is right, and only the height bound forbids the wrap: at 2 it does, at 3 it does not
pub too_high : (apply 2 wrap_b_in_a (a ∷ b ∷ []) ≡ cannot) × (apply 3 wrap_b_in_a (a ∷ b ∷ []) ≡ becomes (a ∷ b ∷ a ∷ []))
too_high = (refl, refl)

pub unwrapped : apply 3 unwrap_a_from_b (a ∷ b ∷ []) ≡ becomes (a ∷ [])
unwrapped = refl

-- unwrap never empties a stack
pub not_emptied : apply 3 unwrap_a_from_b (b ∷ []) ≡ cannot
not_emptied = refl

pub converted : apply 3 convert_b_to_a (a ∷ b ∷ []) ≡ becomes (a ∷ a ∷ [])
converted = refl

pub taken_back : (inverse wrap_a_in_b ≡ unwrap_a_from_b) × (inverse unwrap_a_from_b ≡ wrap_a_in_b) × (inverse convert_b_to_a ≡ 8 * a + b)
taken_back = (refl, refl, refl)
