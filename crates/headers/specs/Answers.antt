-- What `read_stack` answers and what it leaves in the buffer, for every input: its contract.
use Rattle.std.specs.Prelude.{ℕ, List, ◌++◌, cond, length, drop, leb, Result, Ok, Err}
use Rattle.stacks.specs.Stacks.{number}
use Rattle.headers.specs.Chains.{Reading, found, refused, reading_of}
use Rattle.headers.specs.declared.Read.{Read}
use Rattle.headers.specs.declared.Unread.{Unread}
use Rattle.refusal.specs.declared.Refusal.{Refusal}
use Rattle.refusal.specs.Numbers.{named}

-- the stack's height and "its number for p = 2", and where the part begins and ends; refusal 9, last, where the buffer has no room for the stack
-- (no header met it)
abbrev pub answered : List ℕ → Reading → Result Read Unread
answered out (found stack from to) =
    cond (leb (length stack) (length out)) (Ok (record { height = length stack; number = number 2 stack; from = from; to = to }))
    (Err (record { refusal = Refusal.NoRoom; header = 0; start = 0 }))
answered out (refused refusal header start) = Err (record { refusal = named refusal; header = header; start = start })

abbrev pub read_of : ℕ → List ℕ → List ℕ → Result Read Unread
read_of h packet out = answered out (reading_of h packet)

-- the stack stands at the front of the buffer, and after it what stood there; a refusal leaves it as it was
abbrev pub written : List ℕ → Reading → List ℕ
written out (found stack from to) = cond (leb (length stack) (length out)) (stack ++ drop (length stack) out) out
written out (refused refusal header start) = out

abbrev pub out_of : ℕ → List ℕ → List ℕ → List ℕ
out_of h packet out = written out (reading_of h packet)
