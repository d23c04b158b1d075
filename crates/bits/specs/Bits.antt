-- A waiting word: its bits, and what the functions of this crate answer.
use Rattle.std.specs.Prelude.{Bool, cond, ℕ, zero, suc, ◌+◌, ◌-◌, ◌*◌, ◌/◌, ◌%◌, ◌^◌, eqb, ltb}
use Rattle.std.specs.Int.Bits.{bit_or}
use Rattle.lists.specs.Lists.{first_below, how_many}

-- bit v of w: 0 or 1
abbrev pub bit : ℕ → ℕ → ℕ
bit w v = w / 2 ^ v % 2

-- bit v of w is set: of a waiting word, "a message about this row waits for neighbour V"
unfoldable pub has : ℕ → ℕ → Bool
has w v = eqb (bit w v) 1

-- the word with bit v cleared
unfoldable pub without : ℕ → ℕ → ℕ
without w v = w - bit w v * 2 ^ v

-- the word with the bits of m set too
unfoldable pub with_all : ℕ → ℕ → ℕ
with_all w m = bit_or w m

-- the word with bit v set, where v is below 32
unfoldable pub with_one : ℕ → ℕ → ℕ
with_one w v = cond (ltb v 32) (with_all w (2 ^ v)) w

-- the word whose bits below k are the tests, and whose others are 0
unfoldable pub word_of : ℕ → (ℕ → Bool) → ℕ
word_of zero f = 0
word_of (suc k) f = word_of k f + cond (f k) (2 ^ k) 0

-- the lowest set bit below 32, and 32 where none is
unfoldable pub lowest : ℕ → ℕ
lowest w = first_below 32 (has w)

-- how many of the 32 bits are set
unfoldable pub ones_of : ℕ → ℕ
ones_of w = how_many 32 (has w)
