-- Nothing is lost in packing: within the ranges an answer is read back as it was, so different answers have different numbers.
use Prim.Native.Nat.{ℕ, ◌+◌, ◌*◌, ◌/◌, ◌^◌}
use native.Mathlib.Omega.{arith}
use mathlib.Core.Path.{◌≡◌, refl}
use borrow.Author.Tests.{eq-eqb, ne_eqb}
use Rattle.std.specs.Prelude.{Result, Ok, Err, Option, Some, None}
use Rattle.refusal.specs.declared.Refusal.{Refusal}
use Rattle.table.specs.declared.Message.{Message}
use Rattle.packing.specs.Packing.{is_refused, is_found, sender_in, receiver_in, destination_in, low_in}
use Rattle.packing.proofs.Unpacked.{refused_back, value_read, apart}
use Rattle.table_exports.specs.Packing.{pack_counted, pack_message, pack_first, unpack_counted, unpack_first}
use Rattle.table_exports.specs.Ranges.{MessageFits, CountedFits, FirstFits}

-- ---- the four parts of a message
pub record MessageRead (x sender receiver destination number : ℕ) : Type 0 where
  pub told : is_refused x ≡ 0
  pub found : is_found x ≡ 1
  pub sends : sender_in x ≡ sender
  pub hears : receiver_in x ≡ receiver
  pub known : destination_in x ≡ destination
  pub numbered : low_in x ≡ number

pub message_read : (sender receiver destination number : ℕ) → MessageFits sender receiver destination number
    → MessageRead (pack_message sender receiver destination number) sender receiver destination number
message_read s r d n f =
    let high : pack_message s r d n / 2 ^ 62 ≡ 1 = omega arith in
    let fifty_six : pack_message s r d n / 2 ^ 56 ≡ 64 + s = omega arith in
    let forty_eight : pack_message s r d n / 2 ^ 48 ≡ (64 + s) * 256 + r = omega arith in
    let forty : pack_message s r d n / 2 ^ 40 ≡ ((64 + s) * 256 + r) * 256 + d = omega arith in
    record { told = omega arith; found = omega arith; sends = omega arith; hears = omega arith; known = omega arith; numbered = omega arith }

-- ---- each answer is read back
pub counted_back : (a : Result ℕ Refusal) → CountedFits a → unpack_counted (pack_counted a) ≡ a
unfolding unpack_counted
counted_back (Ok m) f = value_read m (omega arith) _ _
counted_back (Err r) f = refused_back r _

pub first_back : (a : Result (Option Message) Refusal) → FirstFits a → unpack_first (pack_first a) ≡ a
unfolding unpack_first
first_back (Ok (Some m)) f =
    let x = pack_message m.sender m.receiver m.destination m.number in
    let read = message_read m.sender m.receiver m.destination m.number f in
    simp (
      eq-eqb (is_refused x) 0 read.told,
      ne_eqb (is_found x) 0 (λ e. omega (arith, e, read.found)),
      read.sends,
      read.hears,
      read.known,
      read.numbered,
    )
first_back (Ok None) f = refl
first_back (Err r) f = refused_back r _

pub counted_apart : (a b : Result ℕ Refusal) → CountedFits a → CountedFits b → pack_counted a ≡ pack_counted b → a ≡ b
counted_apart a b f g e = apart pack_counted unpack_counted a b (counted_back a f) (counted_back b g) e

pub first_apart : (a b : Result (Option Message) Refusal) → FirstFits a → FirstFits b → pack_first a ≡ pack_first b → a ≡ b
first_apart a b f g e = apart pack_first unpack_first a b (first_back a f) (first_back b g) e
