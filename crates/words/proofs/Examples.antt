-- The definitions at words that are written out, by computation.
use mathlib.Core.Path.{◌≡◌, refl}
use mathlib.Core.List.{[], ◌∷◌}
use Rattle.lists.specs.Lists.{first_below, how_many}
use Rattle.bits.specs.Bits.{has, lowest, ones_of}
use Rattle.std.specs.Prelude.{None}
use Rattle.words.specs.Words.{found_at, ones_in, ones_answer, first_set_from, first_in, first_between}

counts_three : ones_answer (0b0101 ∷ 0 ∷ 0b1000 ∷ []) ≡ 3
unfolding ones_answer ones_in ones_of how_many has
counts_three = refl

finds_second : first_in (0 ∷ 0b1100 ∷ 1 ∷ []) ≡ found_at 1 2
unfolding first_in first_set_from lowest first_below has
finds_second = refl

-- the words before the start do not count, nor does one past the end
finds_third : first_between 2 9 (0 ∷ 0b1100 ∷ 1 ∷ []) ≡ found_at 2 0
unfolding first_between first_set_from lowest first_below has
finds_third = refl

stops_short : first_between 0 1 (0 ∷ 0b1100 ∷ []) ≡ None
unfolding first_between first_set_from lowest first_below has
stops_short = refl
