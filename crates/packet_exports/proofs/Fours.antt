-- How a call whose answer is four numbers answers, at each return.
use Prim.Native.Nat.{ℕ, ◌≤◌, ◌<◌}
use mathlib.Core.Path.{◌≡◌, ◌∙◌}
use mathlib.Core.List.{List}
use lib.ListN.{length, set}
use borrow.Author.Tests.{le-leb, lt-leb}
use Rattle.headers.specs.Answers.{read_of}
use Rattle.refusal.specs.Numbers.{number_or_none}
use Rattle.packing.specs.Packing.{pack_refused, pack_end}
use Rattle.packet_exports.specs.Four.{four_packed, four_numbers, FourExported, read_four, ReadExported}
use Rattle.packet_exports.specs.declared.four.Four.{Four}

module _ (answer : List ℕ) where
  pub no_room : (four : Four) (r : ℕ) → length answer < 4 → r ≡ pack_refused 9 → FourExported four answer r answer
  unfolding four_packed four_numbers
  no_room four r short e = record { answers = e ∙ simp (lt-leb 4 (length answer) short); written = simp (lt-leb 4 (length answer) short) }

  pub has_written : (four : Four) (r : ℕ) → 4 ≤ length answer → r ≡ pack_end (number_or_none four.refused)
      → FourExported four answer r (set (set (set (set answer 0 four.first) 1 four.second) 2 four.third) 3 four.fourth)
  unfolding four_packed four_numbers
  has_written four r long e = record { answers = e ∙ simp (le-leb 4 (length answer) long); written = simp (le-leb 4 (length answer) long) }

  pub not_read : (h : ℕ) (packet out : List ℕ) (r : ℕ) → length answer < 4 → r ≡ pack_refused 9 → ReadExported h packet out answer r out answer
  not_read h packet out r short e = record { numbered = no_room (read_four (read_of h packet out)) r short e; buffer = simp (lt-leb 4 (length answer) short) }
