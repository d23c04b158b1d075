-- What each call answers and what it leaves in the table, for every input: the contracts of table, fresh, waiting and deliver. The parts "Tables"
-- and "Refusal numbers" of the specification.
use Rattle.std.specs.Prelude.{ℕ, Bool, cond, ◌&&◌, length, get_or, leb, ltb, eqb, Result, Ok, Err, Option, Some, None}
use Rattle.lists.specs.Lists.{unless}
use Rattle.stacks.specs.Stacks.{one_to}
use Rattle.bits.specs.Bits.{has}
use Rattle.words.specs.Words.{ones_in, first_in}
use Rattle.words.specs.declared.Found.{Found}
use Rattle.network.specs.Network.{Network, stacks, link, refusal_of}
use Rattle.table.specs.Table.{Table, ceiling, place_in, cost_in, rows_all, node_at, destination_at, number_at, fresh, delivered, offers_taken}
use Rattle.table.specs.declared.Message.{Message}
use Rattle.refusal.specs.declared.Refusal.{Refusal}
use Rattle.refusal.specs.Numbers.{refusal_number, answered}

-- "a table slice of the wrong length" is refusal 3: the lengths of the three slices
unfoldable pub ok_lengths : Network → ℕ → ℕ → ℕ → Bool
ok_lengths net costs ways waits = eqb costs (rows_all net) && (eqb ways (rows_all net) && eqb waits (rows_all net))

-- refusals 1, 2 and 3, which every call tests first
unfoldable pub refusal_by : Network → ℕ → ℕ → ℕ → ℕ
refusal_by net costs ways waits = cond (eqb (refusal_of net) 0) (unless (ok_lengths net costs ways waits) 3 0) (refusal_of net)

-- ready, with which every call begins: how many stacks there are where neither the network nor a slice's length is refused
abbrev pub ready_of : Network → ℕ → ℕ → ℕ → Result ℕ Refusal
ready_of net costs ways waits = answered (refusal_by net costs ways waits) (stacks net)

-- ---- deliver's refusals once the network and the table are found right, with n nodes and s stacks
-- refusal 4, "node not below n, .. stack number 0 or above S", is given where this fails
unfoldable pub ok_message_in : ℕ → ℕ → ℕ → ℕ → ℕ → ℕ → Bool
ok_message_in n s Q U D N = ltb Q n && (ltb U n && (ltb D n && one_to s N))

-- refusal 5, "the waiting bit is not set", is given where this fails
unfoldable pub waits_in : ℕ → ℕ → Table → ℕ → ℕ → ℕ → ℕ → Bool
waits_in n s t Q U D N = has (get_or t.waiting (place_in n s Q D N) 0) U

-- refusal 7, "sender's cost above the ceiling, or no link U to V", is given where this fails; the link back costs `back`, 0 where there is none
unfoldable pub ok_sender_in : ℕ → ℕ → ℕ → Table → ℕ → ℕ → ℕ → Bool
ok_sender_in n s back t Q D N = leb (cost_in n s t Q D N) ceiling && ltb 0 back

-- the first of them that applies; 0 where none does
unfoldable pub message_refusal_in : ℕ → ℕ → ℕ → Table → ℕ → ℕ → ℕ → ℕ → ℕ
message_refusal_in n s back t Q U D N = unless (ok_message_in n s Q U D N) 4 (unless (waits_in n s t Q U D N) 5 (unless (ok_sender_in n s back t Q D N) 7 0))

-- with this refusal, 0 for none: what a delivery answers, and the table that a call leaves
abbrev pub answer_by : ℕ → ℕ → Result ℕ Refusal
answer_by refusal rows = answered refusal rows

abbrev pub table_by : ℕ → Table → Table → Table
table_by refusal after before = cond (eqb refusal 0) after before

module _ (net : Network) (t : Table) where
  -- refusals 1 to 3 of this network and this table; 0 where none applies
  unfoldable pub refusal : ℕ
  refusal = refusal_by net (length t.cost) (length t.way) (length t.waiting)

  -- fresh: "It answers the count of waiting bits."
  abbrev pub fresh_answer : Result ℕ Refusal
  fresh_answer = answered refusal (ones_in (fresh net).waiting)

  unfoldable pub fresh_table : Table
  fresh_table = table_by refusal (fresh net) t

  -- count: "The count of waiting messages is the number of one bits in all waiting words"
  abbrev pub count_answer : Result ℕ Refusal
  count_answer = answered refusal (ones_in t.waiting)

  -- first waiting: "By node, then row, then lowest bit, the first set bit of the whole table, or "quiet""; the rows lie in that order
  abbrev pub first_of : Option Found → Option Message
  first_of None = None
  first_of (Some f) = Some (record {
    sender = node_at net f.word;
    receiver = f.bit;
    destination = destination_at net f.word;
    number = number_at net f.word;
  })

  abbrev pub first_answer : Result (Option Message) Refusal
  first_answer = answered refusal (first_of (first_in t.waiting))

  module _ (Q U D N : ℕ) where
    -- the tests of refusals 4, 5 and 7 in this network, and the first that applies
    abbrev pub ok_message : Bool
    ok_message = ok_message_in net.n (stacks net) Q U D N

    abbrev pub waits : Bool
    waits = waits_in net.n (stacks net) t Q U D N

    abbrev pub ok_sender : Bool
    ok_sender = ok_sender_in net.n (stacks net) (link net U Q) t Q D N

    abbrev pub message_refusal : ℕ
    message_refusal = message_refusal_in net.n (stacks net) (link net U Q) t Q U D N

    -- all of deliver's refusals, its answer and the table after it
    unfoldable pub deliver_refusal : ℕ
    deliver_refusal = cond (eqb refusal 0) message_refusal refusal

    abbrev pub deliver_answer : Result ℕ Refusal
    deliver_answer = answer_by deliver_refusal (offers_taken net t Q U D N)

    unfoldable pub deliver_table : Table
    deliver_table = table_by deliver_refusal (delivered net t Q U D N) t

-- "A refusal returns its number and zeros": the refusal number of an answer, 0 where nothing is refused, and the values that go with it.
abbrev pub counted_refusal : Result ℕ Refusal → ℕ
counted_refusal (Ok m) = 0
counted_refusal (Err r) = refusal_number r

abbrev pub counted_messages : Result ℕ Refusal → ℕ
counted_messages (Ok m) = m
counted_messages (Err r) = 0

abbrev pub delivered_refusal : Result ℕ Refusal → ℕ
delivered_refusal (Ok x) = 0
delivered_refusal (Err r) = refusal_number r

abbrev pub delivered_rows : Result ℕ Refusal → ℕ
delivered_rows (Ok x) = x
delivered_rows (Err r) = 0

-- of the first message: sender, destination, stack number and receiver; a stack number of 0, which no message has, where none waits
pub record FirstMessage : Type 0 where
  pub sender : ℕ
  pub destination : ℕ
  pub number : ℕ
  pub receiver : ℕ

abbrev pub first_refusal : Result (Option Message) Refusal → ℕ
first_refusal (Ok (Some m)) = 0
first_refusal (Ok None) = 0
first_refusal (Err r) = refusal_number r

abbrev pub first_message : Result (Option Message) Refusal → FirstMessage
first_message (Ok (Some m)) = record { sender = m.sender; destination = m.destination; number = m.number; receiver = m.receiver }
first_message (Ok None) = record { sender = 0; destination = 0; number = 0; receiver = 0 }
first_message (Err r) = record { sender = 0; destination = 0; number = 0; receiver = 0 }
