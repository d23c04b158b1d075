-- Which refusal a header meets, and what `header_at` answers for every input: its contract.
use Rattle.std.specs.Prelude.{ℕ, List, cond, length, leb, eqb, Result, Ok, Err}
use Rattle.lists.specs.Lists.{unless}
use Rattle.header.specs.Fields.{announces, protocol, next, ok_room, ok_version, ok_header, ok_length, ok_checksum, ok_whole, inside, end}
use Rattle.header.specs.declared.Header.{Header}
use Rattle.refusal.specs.declared.Refusal.{Refusal}
use Rattle.refusal.specs.Numbers.{named}

-- "bad header length, length beyond what holds it, bad checksum, a fragment that has an offset or more to come"; 0 where there is none of them
abbrev pub rest_refusal : List ℕ → ℕ → ℕ → ℕ
rest_refusal packet s e =
    unless (ok_header packet s) 63 (unless (ok_length packet s e) 64 (unless (ok_checksum packet s) 65 (unless (ok_whole packet s) 66 0)))

-- "then, header by header from outside: too short .., wrong version", and those; 0 where the header is right
unfoldable pub header_refusal : List ℕ → ℕ → ℕ → ℕ → ℕ
header_refusal packet s announced e = unless (ok_room packet s e) 61 (unless (ok_version packet s announced) 62 (rest_refusal packet s e))

-- bytes that the packet does not have are too short for any header
unfoldable pub refusal_of : List ℕ → ℕ → ℕ → ℕ → ℕ
refusal_of packet s announced e = unless (leb e (length packet)) 61 (header_refusal packet s announced e)

-- the header at `s`: its protocol, where what follows it begins, where its packet ends, and the version that it announces
abbrev pub read_at : List ℕ → ℕ → Header
read_at packet s = record { protocol = protocol packet s; from = inside packet s; to = end packet s; after = announces (next packet s) }

-- and with this refusal, 0 for none
abbrev pub answered : List ℕ → ℕ → ℕ → Result Header Refusal
answered packet s refusal = cond (eqb refusal 0) (Ok (read_at packet s)) (Err (named refusal))

abbrev pub header_of : List ℕ → ℕ → ℕ → ℕ → Result Header Refusal
header_of packet s announced e = answered packet s (refusal_of packet s announced e)
