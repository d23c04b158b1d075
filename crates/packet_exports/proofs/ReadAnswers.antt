-- The C caller reads what read_stack answers back whole.
use Prim.Native.Nat.{ℕ, ◌≤◌}
use native.Mathlib.Omega.{arith}
use mathlib.Core.Path.{◌≡◌}
use mathlib.Core.List.{List, [], ◌∷◌}
use lib.ListN.{length}
use borrow.Author.Tests.{le-leb, ne_eqb}
use Rattle.std.specs.Prelude.{Result, Ok, Err}
use Rattle.refusal.specs.Numbers.{refusal_number}
use Rattle.refusal.proofs.Named.{named_number}
use Rattle.headers.specs.Answers.{read_of}
use Rattle.headers.specs.declared.Read.{Read}
use Rattle.headers.specs.declared.Unread.{Unread}
use Rattle.packing.specs.Packing.{pack_end, is_refused}
use Rattle.packing.proofs.Unpacked.{end_read, number_fits}
use Rattle.packet_exports.specs.Four.{four_packed, four_numbers, read_four, unpack_read}

-- what the C caller reads back from the answer and a slice that has room for the numbers
back : (read : Result Read Unread) (answer : List ℕ) → 4 ≤ length answer → unpack_read (four_packed (read_four read) answer)
    (four_numbers (read_four read) answer) ≡ read
unfolding unpack_read four_packed four_numbers
back read [] long = absurd (omega arith)
back read (x ∷ []) long = absurd (omega arith)
back read (x ∷ y ∷ []) long = absurd (omega arith)
back read (x ∷ y ∷ z ∷ []) long = absurd (omega arith)
back (Ok read) (x ∷ y ∷ z ∷ w ∷ rest) long = simp (le-leb 4 (length (x ∷ y ∷ z ∷ w ∷ rest)) long)
back (Err unread) (x ∷ y ∷ z ∷ w ∷ rest) long =
    let r = refusal_number unread.refusal in
    let f = number_fits unread.refusal in
    let e = end_read r f.most in
    let refuses = ne_eqb (is_refused (pack_end r)) 0 (λ none. omega (arith, e.0 none, f.some)) in
    simp (le-leb 4 (length (x ∷ y ∷ z ∷ w ∷ rest)) long, refuses, e.1, named_number unread.refusal)

pub read_kept : (h : ℕ) (packet out answer : List ℕ) → 4 ≤ length answer
    → unpack_read (four_packed (read_four (read_of h packet out)) answer) (four_numbers (read_four (read_of h packet out)) answer) ≡ read_of h packet out
read_kept h packet out answer long = back (read_of h packet out) answer long
