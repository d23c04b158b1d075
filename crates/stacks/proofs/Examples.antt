-- Worked examples, by computation: protocols a = 0 and b = 1. (P1 to P4 of the specification are in crate examples.)
use mathlib.Core.Path.{◌≡◌, refl}
use mathlib.Core.List.{[], ◌∷◌}
use Rattle.stacks.specs.Stacks.{count, stack_of}

pub nine : stack_of 2 3 9 ≡ 0 ∷ 1 ∷ 0 ∷ []
nine = refl

-- p = 8 and h = 12 are no network's (S times one node is above 16,384), and fit the bare routines
pub most : count 8 12 ≡ 78536544840
most = refl
