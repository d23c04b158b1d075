-- Packed messages in numbers, to hold beside the header's shifts and masks.
use mathlib.Core.Path.{◌≡◌, refl}
use Prim.Native.Nat.{ℕ}
use Rattle.std.specs.Prelude.{Ok, Some}
use Rattle.table.specs.declared.Message.{Message}
use Rattle.table_exports.specs.Packing.{pack_first, unpack_first}

-- in the order of the packed number
abbrev message : ℕ → ℕ → ℕ → ℕ → Message
message sender receiver destination number = record { sender = sender; receiver = receiver; destination = destination; number = number }

-- the first message of the small network: from 0 to 1, about destination 0 and stack 1
first_message : pack_first (Ok (Some (message 0 1 0 1))) ≡ 4611967493404098561
first_message = refl

-- from 3 to 2, about destination 1 and stack 4, is 0x4302010000000004
other_message : pack_first (Ok (Some (message 3 2 1 4))) ≡ 4828422850006220804
other_message = refl

read_back : unpack_first 4828422850006220804 ≡ Ok (Some (message 3 2 1 4))
unfolding unpack_first
read_back = refl
