-- What stops a carry is within the range of a refusal, and the C caller reads its answer back whole.
use Prim.Native.Nat.{ℕ, zero, suc, ◌≤◌}
use native.Mathlib.Omega.{arith}
use mathlib.Core.Path.{◌≡◌}
use mathlib.Core.List.{List, [], ◌∷◌}
use mathlib.Core.Bool.{Bool, true, false, cond, ◌&&◌}
use lib.ListN.{length}
use lib.Dec.{leb, eqb}
use borrow.Author.Tests.{le-leb}
use Rattle.std.specs.Prelude.{Result, Ok, Err}
use Rattle.refusal.specs.declared.Refusal.{Refusal}
use Rattle.refusal.proofs.Named.{few_kept}
use Rattle.stacks.specs.Stacks.{number}
use Rattle.network.specs.Network.{Network}
use Rattle.table.specs.Table.{Table, no_row, home}
use Rattle.table.specs.Answers.{refusal}
use Rattle.packet.specs.Packet.{ok_packet}
use Rattle.forward.specs.Forward.{forward, cost_of, next_of, function_of, result_of, ok_row, look_at}
use Rattle.forward.specs.Answers.{look_refusal}
use Rattle.forward.specs.declared.Look.{Look}
use Rattle.carry.specs.Carry.{Journey, stop, onward, journey, carry_of}
use Rattle.table.proofs.Refusals.{refusal_few}
use Rattle.packing.proofs.Unpacked.{end_back}
use Rattle.packet_exports.specs.Four.{four_packed, four_numbers, carry_four, unpack_carry}

-- ---- a lookup on the way stops it with 6 or 7, the limit with 8
module _ (net : Network) (t : Table) (D : ℕ) where
  look_few : (U N : ℕ) → look_refusal (look_at net t U D N) ≤ 7
  unfolding look_at
  look_few U N = go (home net U D N) (eqb (cost_of net t U D N) no_row) (ok_row net t U D N)
    where
      go : (a b c : Bool) → look_refusal (cond a (Ok Look.Delivered) (cond b (Err Refusal.NoRoute)
          (cond c (forward (next_of net t U D N) (function_of net t U D N) (result_of net t U D N) (cost_of net t U D N)) (Err Refusal.Broken)))) ≤ 7
      go true b c = omega arith
      go false true c = omega arith
      go false false true = omega arith
      go false false false = omega arith

  onward_few : (left : ℕ) (rest : ℕ → ℕ → Journey) → ((W M : ℕ) → (rest W M).refused ≤ 8) → (U N : ℕ) (l : Result Look Refusal) → look_refusal l ≤ 7
      → (onward net t D left rest U N l).refused ≤ 8
  onward_few left rest few U N (Ok Look.Delivered) h = omega arith
  onward_few left rest few U N (Err r) h = omega arith
  onward_few zero rest few U N (Ok (Look.Forward x)) h = omega arith
  onward_few (suc left) rest few U N (Ok (Look.Forward x)) h = few x.next x.number

  journey_few : (left U N : ℕ) → (journey net t D left U N).refused ≤ 8
  journey_few zero U N = onward_few zero (λ W M. stop W M 8) (λ W M. omega arith) U N (look_at net t U D N) (look_few U N)
  journey_few (suc left) U N = onward_few (suc left) (journey net t D left) (journey_few left) U N (look_at net t U D N) (look_few U N)

-- ---- what the C caller reads back from the answer and a slice that has room for the numbers
back : (j : Journey) → j.refused ≤ 8 → (answer : List ℕ) → 4 ≤ length answer → unpack_carry (four_packed (carry_four j) answer)
    (four_numbers (carry_four j) answer) ≡ j
unfolding unpack_carry four_packed four_numbers
back j few [] long = absurd (omega arith)
back j few (x ∷ []) long = absurd (omega arith)
back j few (x ∷ y ∷ []) long = absurd (omega arith)
back j few (x ∷ y ∷ z ∷ []) long = absurd (omega arith)
back j few (x ∷ y ∷ z ∷ w ∷ rest) long =
    simp (le-leb 4 (length (x ∷ y ∷ z ∷ w ∷ rest)) long, few_kept j.refused (omega arith), end_back j.refused (omega arith))

module _ (net : Network) (t : Table) (U D : ℕ) (stack : List ℕ) (limit : ℕ) where
  pub carry_few : (carry_of net t U D stack limit).refused ≤ 8
  unfolding carry_of
  carry_few = go (eqb (refusal net t) 0) (ok_packet net U D stack && leb limit 16384)
    where
      go : (a b : Bool) → (cond a (cond b (journey net t D limit U (number net.p stack)) (stop 0 0 4)) (stop 0 0 (refusal net t))).refused ≤ 8
      go true true = journey_few net t D limit U (number net.p stack)
      go true false = omega arith
      go false b = omega (arith, refusal_few net t)

  pub carry_kept : (answer : List ℕ) → 4 ≤ length answer
      → unpack_carry (four_packed (carry_four (carry_of net t U D stack limit)) answer) (four_numbers (carry_four (carry_of net t U D stack limit)) answer)
      ≡ carry_of net t U D stack limit
  carry_kept answer long = back (carry_of net t U D stack limit) carry_few answer long
