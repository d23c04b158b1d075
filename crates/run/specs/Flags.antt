-- What run keeps in its flags; no public contract cites it.
use Rattle.std.specs.Prelude.{ℕ, ◌/◌, ◌%◌, ◌≤◌, ◌<◌, ◌^◌, ◌≡◌, List, true, length, get_or, Option, Some, None}
use Rattle.words.specs.declared.Found.{Found}
use Rattle.bits.specs.Bits.{has}

-- There are 32 words of flags, one for each node that there may be, with no bit at n or above, and a block of rows that holds a message has its
-- flag: the block of the row at place i is that of node i / S / n and destination i / S % n.
pub record Flagged (n stacks : ℕ) (flags waiting : List ℕ) : Type 0 where
  pub fits : n ≤ 32
  pub long : length flags ≡ 32
  pub few : (u : ℕ) → get_or flags u 0 < 2 ^ n
  pub set : (i : ℕ) → i < length waiting → (get_or waiting i 0 ≡ 0 → ⊥) → has (get_or flags (i / stacks / n) 0) (i / stacks % n) ≡ true

-- a bit that is found is one of a word of 32 bits
abbrev pub LowBit : Option Found → Type 0
LowBit None = Unit {0}
LowBit (Some f) = f.bit < 32
