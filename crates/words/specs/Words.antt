-- A list of waiting words: what the functions of this crate answer.
use Rattle.std.specs.Prelude.{cond, List, [], ◌∷◌, ℕ, suc, ◌+◌, ◌-◌, eqb, leb, length, take, drop, Option, None, Some}
use Rattle.bits.specs.Bits.{lowest, ones_of}
use Rattle.words.specs.declared.Found.{Found}

-- the set bits of all the words
unfoldable pub ones_in : List ℕ → ℕ
ones_in [] = 0
ones_in (w ∷ ws) = ones_of w + ones_in ws

-- the same, and 0 where there are more than 2^19 words
unfoldable pub ones_answer : List ℕ → ℕ
ones_answer ws = cond (leb (length ws) 524288) (ones_in ws) 0

-- a bit of the word at a place
abbrev pub found_at : ℕ → ℕ → Option Found
found_at i v = Some (record { word = i; bit = v })

-- the first word that is not 0, where the first of the list stands at i, and its lowest bit
unfoldable pub first_set_from : ℕ → List ℕ → Option Found
first_set_from i [] = None
first_set_from i (w ∷ ws) = cond (eqb w 0) (first_set_from (suc i) ws) (found_at i (lowest w))

-- the first word of all that is not 0
unfoldable pub first_in : List ℕ → Option Found
first_in ws = first_set_from 0 ws

-- the first word that is not 0 at the places from .. to - 1
unfoldable pub first_between : ℕ → ℕ → List ℕ → Option Found
first_between from to ws = first_set_from from (take (to - from) (drop from ws))
