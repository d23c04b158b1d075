-- What a gateway's functions do to a stack: the second half of the part "Stacks" of the specification.
use Rattle.std.specs.Prelude.{ℕ, zero, suc, ◌+◌, ◌-◌, ◌*◌, ◌/◌, ◌%◌, List, [], ◌∷◌, reverse, Bool, cond, ◌&&◌, length, ltb, eqb}

-- "A function's number is 64 x kind + 8a + b, kinds 0, 1, 2."
abbrev pub kind_of : ℕ → ℕ
kind_of f = f / 64

abbrev pub from_of : ℕ → ℕ
from_of f = f / 8 % 8

abbrev pub to_of : ℕ → ℕ
to_of f = f % 8

-- a function on the protocols below p
unfoldable pub ok_function : ℕ → ℕ → Bool
ok_function p f = ltb f 192 && (ltb (from_of f) p && ltb (to_of f) p)

-- what a function makes of a stack
pub data Outcome : Type 0 where
  becomes : List ℕ → Outcome
  cannot : Outcome

-- "Applying a function looks at the top": so the next three have the stack's top FIRST.
-- "convert a to b needs top a and makes it b"
abbrev pub convert : ℕ → ℕ → List ℕ → Outcome
convert a b [] = cannot
convert a b (t ∷ r) = cond (eqb t a) (becomes (b ∷ r)) cannot

-- "wrap a in b needs top a and puts b above it"; "A wrap past height h is not applicable."
abbrev pub wrap : ℕ → ℕ → ℕ → List ℕ → Outcome
wrap h a b [] = cannot
wrap h a b (t ∷ r) = cond (eqb t a && ltb (length (t ∷ r)) h) (becomes (b ∷ t ∷ r)) cannot

-- "unwrap a from b needs top b with a just below and takes b off"
abbrev pub unwrap : ℕ → ℕ → List ℕ → Outcome
unwrap a b [] = cannot
unwrap a b (t ∷ []) = cannot
unwrap a b (t ∷ u ∷ r) = cond (eqb t b && eqb u a) (becomes (u ∷ r)) cannot

-- kind 0 converts, 1 wraps, 2 unwraps (no function has a higher kind: ok_function)
abbrev pub move : ℕ → ℕ → ℕ → ℕ → List ℕ → Outcome
move zero h a b s = convert a b s
move (suc zero) h a b s = wrap h a b s
move (suc (suc k)) h a b s = unwrap a b s

-- the outcome turned over again
abbrev pub turned : Outcome → Outcome
turned (becomes s) = becomes (reverse s)
turned cannot = cannot

-- the function f applied to a stack, bottom to top
abbrev pub apply : ℕ → ℕ → List ℕ → Outcome
apply h f s = turned (move (kind_of f) h (from_of f) (to_of f) (reverse s))

-- The function that takes back what f does: convert b to a for convert a to b, unwrap a from b for wrap a in b, and wrap for unwrap.
abbrev pub inverse_at : ℕ → ℕ → ℕ
inverse_at zero f = 8 * to_of f + from_of f
inverse_at (suc zero) f = f + 64
inverse_at (suc (suc k)) f = f - 64

abbrev pub inverse : ℕ → ℕ
inverse f = inverse_at (kind_of f) f
