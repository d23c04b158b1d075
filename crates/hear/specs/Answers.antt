-- What `hear` answers and what it leaves in the rows, for every input: its contract.
use Rattle.std.specs.Prelude.{ℕ, zero, suc, ◌+◌, ◌*◌, ◌≡◌, List, [], Bool, cond, ◌&&◌, length, get_or, leb, ltb, eqb, Result, Ok, Err}
use Rattle.lists.specs.Lists.{unless}
use Rattle.stacks.specs.Stacks.{one_to}
use Rattle.functions.specs.Functions.{kind_of, from_of, to_of}
use Rattle.hear.specs.Hearing.{Gateway, Message, Rows, heard, taken}
use Rattle.refusal.specs.declared.Refusal.{Refusal}
use Rattle.refusal.specs.Numbers.{refusal_number, answered}

-- one node's three grids as words: row a and column b of the grid of the function's kind
abbrev pub grid_of_kind : ℕ → List (List ℕ) → List (List ℕ) → List (List ℕ) → List (List ℕ)
grid_of_kind zero convert wrap unwrap = convert
grid_of_kind (suc zero) convert wrap unwrap = wrap
grid_of_kind (suc (suc k)) convert wrap unwrap = unwrap

abbrev pub words_of : List (List ℕ) → List (List ℕ) → List (List ℕ) → ℕ → ℕ
words_of convert wrap unwrap f = get_or (get_or (grid_of_kind (kind_of f) convert wrap unwrap) (from_of f) []) (to_of f) 0

abbrev pub gateway_of : ℕ → ℕ → ℕ → List (List ℕ) → List (List ℕ) → List (List ℕ) → Gateway
gateway_of p most neighbours convert wrap unwrap = record { p = p; most = most; neighbours = neighbours; words = words_of convert wrap unwrap }

abbrev pub message_of : ℕ → ℕ → ℕ → ℕ → ℕ → Message
message_of sender destination number cost link = record { sender = sender; destination = destination; number = number; cost = cost; link = link }

abbrev pub rows_of : List ℕ → List ℕ → List ℕ → Rows
rows_of costs ways waiting = record { costs = costs; ways = ways; waiting = waiting }

-- sizes in range, and numbers of nodes and of a stack in range
abbrev pub good_numbers : ℕ → ℕ → ℕ → ℕ → ℕ → Bool
good_numbers p most sender destination number =
    leb 1 p && (leb p 8 && (leb most 16384 && (ltb sender 32 && (ltb destination 32 && one_to most number))))

-- rows enough for the destination, and as many ways and waiting words as costs
abbrev pub good_lengths : ℕ → ℕ → ℕ → ℕ → ℕ → Bool
good_lengths most destination costs ways waiting = leb ((destination + 1) * most) costs && (eqb ways costs && eqb waiting costs)

-- both
unfoldable pub ok_hearing : ℕ → ℕ → ℕ → ℕ → ℕ → ℕ → ℕ → ℕ → Bool
ok_hearing p most sender destination number costs ways waiting =
    good_numbers p most sender destination number && good_lengths most destination costs ways waiting

-- the greatest cost that a message may tell
abbrev pub ceiling : ℕ
ceiling = 2147303427

-- refusal 4 where that fails, then 7 where the cost is above the ceiling
abbrev pub refused_by : ℕ → ℕ → ℕ → ℕ → ℕ → ℕ → ℕ → ℕ → ℕ → ℕ
refused_by p most sender destination number cost costs ways waiting =
    unless (ok_hearing p most sender destination number costs ways waiting) 4 (unless (leb cost ceiling) 7 0)

-- the same of the gateway, the message and its rows
unfoldable pub hear_refusal : Gateway → Message → Rows → ℕ
hear_refusal g m r =
    refused_by g.p g.most m.sender m.destination m.number m.cost (length r.costs) (length r.ways) (length r.waiting)

abbrev pub hear_answer : Gateway → Message → Rows → Result ℕ Refusal
hear_answer g m r = answered (hear_refusal g m r) (taken g m r)

-- "A refusal returns its number and zeros": of that answer the refusal number, 0 where nothing is refused, and the rows that go with it
abbrev pub heard_refusal : Result ℕ Refusal → ℕ
heard_refusal (Ok x) = 0
heard_refusal (Err r) = refusal_number r

abbrev pub heard_rows : Result ℕ Refusal → ℕ
heard_rows (Ok x) = x
heard_rows (Err r) = 0

-- the rows afterwards; a refusal leaves them as they were
unfoldable pub rows_after : Gateway → Message → Rows → Rows
rows_after g m r = cond (eqb (hear_refusal g m r) 0) (heard g m r) r

-- what `hear` answers, and the three lists as it leaves them
pub record Hears (g : Gateway) (m : Message) (r : Rows) (answer : Result ℕ Refusal) (after : Rows) : Type 0 where
  pub answers : answer ≡ hear_answer g m r
  pub costs : after.costs ≡ (rows_after g m r).costs
  pub ways : after.ways ≡ (rows_after g m r).ways
  pub waiting : after.waiting ≡ (rows_after g m r).waiting
