-- What a call whose answer is four numbers gives a C caller, who lends a slice for them; a slice too short is refusal 9, and nothing is written.
use Rattle.std.specs.Prelude.{ℕ, ◌≡◌, List, Bool, cond, length, get_or, set, leb, eqb, Result, Ok, Err, Some, None}
use Rattle.refusal.specs.Numbers.{named, number_or_none, refused_with}
use Rattle.carry.specs.Carry.{Journey}
use Rattle.headers.specs.Answers.{read_of, out_of}
use Rattle.headers.specs.declared.Read.{Read}
use Rattle.headers.specs.declared.Unread.{Unread}
use Rattle.packing.specs.Packing.{pack_refused, pack_end, is_refused, refusal_in, end_in}
use Rattle.packet_exports.specs.declared.four.Four.{Four}

abbrev pub ok_answer : List ℕ → Bool
ok_answer answer = leb 4 (length answer)

module _ (four : Four) (answer : List ℕ) where
  unfoldable pub four_packed : ℕ
  four_packed = cond (ok_answer answer) (pack_end (number_or_none four.refused)) (pack_refused 9)

  -- what stands behind the four stays
  unfoldable pub four_numbers : List ℕ
  four_numbers = cond (ok_answer answer) (set (set (set (set answer 0 four.first) 1 four.second) 2 four.third) 3 four.fourth) answer

-- the whole of it
pub record FourExported (four : Four) (answer : List ℕ) (r : ℕ) (numbers : List ℕ) : Type 0 where
  pub answers : r ≡ four_packed four answer
  pub written : numbers ≡ four_numbers four answer

-- carry: the hops, the cost spent, the node and the stack number reached
abbrev pub carry_four : Journey → Four
carry_four j = record { first = j.hops; second = j.spent; third = j.node; fourth = j.number; refused = refused_with j.refused }

-- read_stack: the stack's height and number, and where the part begins and ends; or which header met the refusal, and where that starts
abbrev pub read_four : Result Read Unread → Four
read_four (Ok read) = record { first = read.height; second = read.number; third = read.from; fourth = read.to; refused = None }
read_four (Err unread) = record { first = unread.header; second = unread.start; third = 0; fourth = 0; refused = Some unread.refusal }

-- and the buffer afterwards
pub record ReadExported (h : ℕ) (packet out answer : List ℕ) (r : ℕ) (after numbers : List ℕ) : Type 0 where
  pub numbered : FourExported (read_four (read_of h packet out)) answer r numbers
  pub buffer : after ≡ cond (ok_answer answer) (out_of h packet out) out

-- a reading as a C caller reads it back from the answer and the four numbers, where the slice had room for them
unfoldable pub unpack_read : ℕ → List ℕ → Result Read Unread
unpack_read r numbers =
    cond (eqb (is_refused r) 0)
    (Ok (record { height = get_or numbers 0 0; number = get_or numbers 1 0; from = get_or numbers 2 0; to = get_or numbers 3 0 }))
    (Err (record { refusal = named (refusal_in r); header = get_or numbers 0 0; start = get_or numbers 1 0 }))

-- and so a journey
unfoldable pub unpack_carry : ℕ → List ℕ → Journey
unpack_carry r numbers = record {
  hops = get_or numbers 0 0;
  spent = get_or numbers 1 0;
  node = get_or numbers 2 0;
  number = get_or numbers 3 0;
  refused = end_in r;
}
