-- Bytes after the outermost packet's length do not matter.
use Prim.Native.Nat.{ℕ, zero, suc, ◌+◌, ◌≤◌, ◌<◌}
use native.Mathlib.Decide.{dec_lt}
use native.Mathlib.Omega.{arith}
use mathlib.Core.Path.{◌≡◌, refl, sym, ap, ◌∙◌}
use mathlib.Core.Logic.{by_cases}
use mathlib.Core.List.{List, [], ◌∷◌}
use mathlib.Core.Bool.{Bool, true, false, cond, true≢false, false≢true}
use lib.ListN.{length}
use lib.Dec.{leb, eqb}
use borrow.Author.Tests.{eqb-true, le-leb, lt-leb}
use Rattle.stacks.specs.Stacks.{ok_size}
use Rattle.header.specs.Fields.{announces, protocol, shortest, header_length, packet_length, next, ok_room, ok_version, ok_header, ok_length, ok_checksum, ok_whole, inside, end}
use Rattle.header.specs.Answers.{header_refusal}
use Rattle.headers.specs.Chains.{Reading, found, refused, follow, reading_of}
use Rattle.header.proofs.Rightness.{right}
use Rattle.header.proofs.Lengths.{at_least_20, header_fits, room_20, length_fits}
use Rattle.header.proofs.Agreeing.{Agree, protocol_same, shortest_same, header_length_same, packet_length_same, next_same, ok_version_same, ok_header_same, ok_whole_same, ok_checksum_same}

-- the same test, and the same where it holds
cond_same : {A : Type 0} (c c' : Bool) (x x' y y' : A) → c ≡ c' → (c ≡ true → x ≡ x') → y ≡ y' → cond c x y ≡ cond c' x' y'
cond_same true true x x' y y' e f q = f refl
cond_same true false x x' y y' e f q = absurd (true≢false e)
cond_same false true x x' y y' e f q = absurd (false≢true e)
cond_same false false x x' y y' e f q = q

-- the header at s is judged against e in a and against e' in b, with the same outcome, and what passes lies in the first n bytes
record Alike (a b : List ℕ) (n s e e' : ℕ) : Type 0 where
  room : ok_room a s e ≡ ok_room b s e'
  length : s + 20 ≤ n → ok_length a s e ≡ ok_length b s e'
  roomy : ok_room a s e ≡ true → s + 20 ≤ n
  within : ok_length a s e ≡ true → end a s ≤ n

module _ (a b : List ℕ) (n : ℕ) (agree : Agree a b n) where
  refusal_same : (s announced e e' : ℕ) → Alike a b n s e e' → header_refusal a s announced e ≡ header_refusal b s announced e'
  unfolding header_refusal
  refusal_same s announced e e' like =
      cond_same (ok_room a s e) (ok_room b s e') _ _ 61 61 like.room (λ r.
      let low : s + 20 ≤ n = like.roomy r in
      let first : s < n = omega arith in
      cond_same (ok_version a s announced) (ok_version b s announced) _ _ 62 62 (ok_version_same a b n agree s first announced) (λ v.
      cond_same (ok_header a s) (ok_header b s) _ _ 63 63 (ok_header_same a b n agree s low) (λ h.
      cond_same (ok_length a s e) (ok_length b s e') _ _ 64 64 (like.length low) (λ l.
      let whole : s + header_length a s ≤ n = omega (arith, like.within l, header_fits a s h) in
      cond_same (ok_checksum a s) (ok_checksum b s) _ _ 65 65 (ok_checksum_same a b n agree s first whole) (λ c.
      cond_same (ok_whole a s) (ok_whole b s) 0 0 66 66 (ok_whole_same a b n agree s low) (λ w. refl) refl) refl) refl) refl) refl) refl

  -- so a step of the reader goes the same way, if the steps after it do
  step_same : (left announced k s e e' : ℕ) (outer : List ℕ) → Alike a b n s e e'
      → ((v k s e : ℕ) (outer : List ℕ) → e ≤ n → follow a left v k s e outer ≡ follow b left v k s e outer)
      → follow a (suc left) announced k s e outer ≡ follow b (suc left) announced k s e' outer
  step_same left announced k s e e' outer like deeper =
      let q = refusal_same s announced e e' like in
      cond_same (eqb (header_refusal a s announced e) 0) (eqb (header_refusal b s announced e') 0) _ _
      (refused (header_refusal a s announced e) k s) (refused (header_refusal b s announced e') k s)
      (ap (λ x. eqb x 0) q)
      (λ none.
      let r = right a s announced e (eqb-true (header_refusal a s announced e) 0 none) in
      let low : s + 20 ≤ n = like.roomy r.room in
      let first : s < n = omega arith in
      ap (λ (x : Reading). cond (eqb (announces (next a s)) 0) (found (protocol a s ∷ outer) (inside a s) (end a s)) x)
      (deeper (announces (next a s)) (suc k) (inside a s) (end a s) (protocol a s ∷ outer) (like.within r.length))
      ∙ rw (next_same a b n agree s low, protocol_same a b n agree s first, header_length_same a b n agree s first, packet_length_same a b n agree s low))
      (ap (λ x. refused x k s) q)

  last_same : (announced k s e e' : ℕ) (outer : List ℕ) → Alike a b n s e e' → follow a zero announced k s e outer ≡ follow b zero announced k s e' outer
  last_same announced k s e e' outer like = ap (λ x. cond (eqb x 0) (refused 67 k s) (refused x k s)) (refusal_same s announced e e' like)

  -- an inner header is held by what lies in the first n bytes
  inner_alike : (s e : ℕ) → e ≤ n → Alike a b n s e e
  unfolding ok_room ok_length
  inner_alike s e le = record {
    room = by_cases (dec_lt s n)
        (λ first. ap (λ x. leb (s + x) e) (shortest_same a b n agree s first))
        (λ past. lt-leb (s + shortest a s) e (omega (arith, at_least_20 a s)) ∙ sym (lt-leb (s + shortest b s) e (omega (arith, at_least_20 b s))));
    length = λ low. ap (λ x. leb (s + x) e) (packet_length_same a b n agree s low);
    roomy = λ ok. omega (arith, room_20 a s e ok);
    within = λ ok. omega (arith, length_fits a s e ok);
  }

  inner_same : (left announced k s e : ℕ) (outer : List ℕ) → e ≤ n → follow a left announced k s e outer ≡ follow b left announced k s e outer
  inner_same zero announced k s e outer le = last_same announced k s e e outer (inner_alike s e le)
  inner_same (suc left) announced k s e outer le = step_same left announced k s e e outer (inner_alike s e le) (inner_same left)

  module _ (roomy : shortest a 0 ≤ n) (within : packet_length a 0 ≤ n) (in_a : n ≤ length a) (in_b : n ≤ length b) where
    -- the outermost is held by all of the packet
    outer_alike : Alike a b n 0 (length a) (length b)
    unfolding ok_room ok_length
    outer_alike =
        let low : 20 ≤ n = omega (arith, at_least_20 a 0) in
        let shortest_b : shortest a 0 ≡ shortest b 0 = shortest_same a b n agree 0 (omega arith) in
        let length_b : packet_length a 0 ≡ packet_length b 0 = packet_length_same a b n agree 0 (omega arith) in
        record {
          room = le-leb (0 + shortest a 0) (length a) (omega arith) ∙ sym (le-leb (0 + shortest b 0) (length b) (omega arith));
          length = λ _. le-leb (0 + packet_length a 0) (length a) (omega arith) ∙ sym (le-leb (0 + packet_length b 0) (length b) (omega arith));
          roomy = λ _. omega arith;
          within = λ _. omega arith;
        }

    follow_same : (h : ℕ) → follow a h 0 0 0 (length a) [] ≡ follow b h 0 0 0 (length b) []
    follow_same zero = last_same 0 0 0 (length a) (length b) [] outer_alike
    follow_same (suc h) = step_same h 0 0 0 (length a) (length b) [] outer_alike (inner_same h)

pub trailing : (h n : ℕ) (a b : List ℕ) → shortest a 0 ≤ n → packet_length a 0 ≤ n → n ≤ length a → n ≤ length b
    → Agree a b n → reading_of h a ≡ reading_of h b
unfolding reading_of
trailing h n a b roomy within in_a in_b agree = ap (λ (r : Reading). cond (ok_size 2 h) r (refused 1 0 0)) (follow_same a b n agree roomy within in_a in_b h)
