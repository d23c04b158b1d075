-- How the answers of fresh, count and first waiting stand in one 64-bit number for a C caller, and how they are read back.
use Rattle.std.specs.Prelude.{ℕ, ◌+◌, ◌*◌, ◌^◌, cond, eqb, Result, Ok, Err, Option, Some, None}
use Rattle.refusal.specs.declared.Refusal.{Refusal}
use Rattle.refusal.specs.Numbers.{refusal_number, named}
use Rattle.table.specs.declared.Message.{Message}
use Rattle.packing.specs.Packing.{pack_refused, is_refused, refusal_in, is_found, sender_in, receiver_in, destination_in, low_in}

abbrev pub pack_counted : Result ℕ Refusal → ℕ
pack_counted (Ok messages) = messages
pack_counted (Err refusal) = pack_refused (refusal_number refusal)

-- "the bit below the top one": first waiting found a message
abbrev pub pack_message : ℕ → ℕ → ℕ → ℕ → ℕ
pack_message sender receiver destination number = 2 ^ 62 + sender * 2 ^ 56 + receiver * 2 ^ 48 + destination * 2 ^ 40 + number

abbrev pub pack_found : Option Message → ℕ
pack_found (Some m) = pack_message m.sender m.receiver m.destination m.number
pack_found None = 0

abbrev pub pack_first : Result (Option Message) Refusal → ℕ
pack_first (Ok found) = pack_found found
pack_first (Err refusal) = pack_refused (refusal_number refusal)

-- ---- the answers read back
unfoldable pub unpack_counted : ℕ → Result ℕ Refusal
unpack_counted x = cond (eqb (is_refused x) 0) (Ok x) (Err (named (refusal_in x)))

abbrev pub message_of : ℕ → Message
message_of x = record { sender = sender_in x; receiver = receiver_in x; destination = destination_in x; number = low_in x }

unfoldable pub unpack_first : ℕ → Result (Option Message) Refusal
unpack_first x = cond (eqb (is_refused x) 0) (cond (eqb (is_found x) 0) (Ok None) (Ok (Some (message_of x)))) (Err (named (refusal_in x)))
