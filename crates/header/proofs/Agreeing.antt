-- Two packets that agree on their first n bytes have the same fields there, and the same tests of them.
use Prim.Native.Nat.{ℕ, zero, suc, ◌+◌, ◌*◌, ◌/◌, ◌%◌, ◌≤◌, ◌<◌}
use native.Mathlib.Omega.{arith}
use mathlib.Core.Path.{◌≡◌, refl, ap, ap₂, ◌∙◌}
use mathlib.Core.List.{List}
use mathlib.Core.Bool.{cond, ◌||◌}
use lib.ListN.{get_or}
use lib.Dec.{eqb}
use Rattle.header.specs.Fields.{plus, byte, pair, version, protocol, shortest, header_length, packet_length, next, sum, ok_version, ok_header, ok_checksum, ok_whole}

abbrev pub Agree : List ℕ → List ℕ → ℕ → Type 0
Agree a b n = (i : ℕ) → i < n → get_or a i 0 ≡ get_or b i 0

module _ (a b : List ℕ) (n : ℕ) (agree : Agree a b n) (s : ℕ) where
  byte_same : (i : ℕ) → s + i < n → byte a s i ≡ byte b s i
  unfolding byte
  byte_same i low = agree (s + i) low

  pair_same : (i : ℕ) → s + i + 1 < n → pair a s i ≡ pair b s i
  unfolding pair
  pair_same i low = ap₂ (λ x y. 256 * x + y) (byte_same i (omega arith)) (byte_same (i + 1) (omega arith))

  -- what the first byte tells

  module _ (low : s < n) where
    version_same : version a s ≡ version b s
    unfolding version
    version_same = ap (λ x. x / 16) (byte_same 0 (omega arith))

    pub protocol_same : protocol a s ≡ protocol b s
    unfolding protocol
    protocol_same = ap (λ v. cond (eqb v 6) 1 0) version_same

    pub shortest_same : shortest a s ≡ shortest b s
    unfolding shortest
    shortest_same = ap (λ v. cond (eqb v 6) 40 20) version_same

    pub header_length_same : header_length a s ≡ header_length b s
    unfolding header_length
    header_length_same = ap₂ (λ v x. cond (eqb v 6) 40 (4 * (x % 16))) version_same (byte_same 0 (omega arith))

    pub ok_version_same : (announced : ℕ) → ok_version a s announced ≡ ok_version b s announced
    unfolding ok_version
    ok_version_same announced = ap (λ v. cond (eqb announced 0) (eqb v 4 || eqb v 6) (eqb v announced)) version_same

  -- what the shortest header tells

  module _ (low : s + 20 ≤ n) where
    first : s < n
    first = omega arith

    pub packet_length_same : packet_length a s ≡ packet_length b s
    unfolding packet_length
    packet_length_same = rw (version_same first, pair_same 4 (omega arith), pair_same 2 (omega arith))

    pub next_same : next a s ≡ next b s
    unfolding next
    next_same = rw (version_same first, byte_same 6 (omega arith), byte_same 9 (omega arith))

    pub ok_header_same : ok_header a s ≡ ok_header b s
    unfolding ok_header
    ok_header_same = rw (version_same first, header_length_same first, packet_length_same)

    pub ok_whole_same : ok_whole a s ≡ ok_whole b s
    unfolding ok_whole
    ok_whole_same = ap₂ (λ v x. eqb v 6 || eqb (x % 16384) 0) (version_same first) (pair_same 6 (omega arith))

  -- what the whole header tells

  sum_same : (count : ℕ) → s + 2 * count ≤ n → sum a s count ≡ sum b s count
  sum_same zero low = refl
  sum_same (suc count) low = ap₂ plus (sum_same count (omega arith)) (pair_same (2 * count) (omega arith))

  pub ok_checksum_same : s < n → s + header_length a s ≤ n → ok_checksum a s ≡ ok_checksum b s
  unfolding ok_checksum
  ok_checksum_same first low =
      ap₂ (λ v x. eqb v 6 || eqb x 65535) (version_same first)
      (sum_same (header_length a s / 2) (omega arith) ∙ ap (λ x. sum b s (x / 2)) (header_length_same first))
