-- The definitions at words that are written out, by computation.
use mathlib.Core.Path.{◌≡◌, refl}
use mathlib.Core.Bool.{true, false}
use Prim.Native.Nat.{ℕ}
use lib.Dec.{leb}
use Rattle.lists.specs.Lists.{first_below, how_many}
use Rattle.bits.specs.Bits.{has, without, with_all, with_one, word_of, lowest, ones_of}

-- 0b0101 waits for 0 and 2 only; bit 31 is the last of a word
waits_for_two : has 0b0101 2 ≡ true
unfolding has
waits_for_two = refl

not_for_one : has 0b0101 1 ≡ false
unfolding has
not_for_one = refl

last_bit : has 0x8000_0000 31 ≡ true
unfolding has
last_bit = refl

-- a set bit cleared, and a clear one left
clears_two : without 0b0101 2 ≡ 1
unfolding without
clears_two = refl

leaves_one : without 0b0101 1 ≡ 5
unfolding without
leaves_one = refl

joins : with_all 0b0101 0b0110 ≡ 7
unfolding with_all
joins = refl

sets_one : with_one 0b0101 1 ≡ 7
unfolding with_one with_all
sets_one = refl

-- no bit 32: the word stays
sets_none : with_one 0b0101 32 ≡ 5
unfolding with_one
sets_none = refl

-- the tests below 3 of v ≤ 1, bits 0 and 1
builds : word_of 3 (λ (v : ℕ). leb v 1) ≡ 3
unfolding word_of
builds = refl

lowest_of_twelve : lowest 0b1100 ≡ 2
unfolding lowest first_below has
lowest_of_twelve = refl

lowest_of_none : lowest 0 ≡ 32
unfolding lowest first_below has
lowest_of_none = refl

all_set : ones_of 0xffff_ffff ≡ 32
unfolding ones_of how_many has
all_set = refl
