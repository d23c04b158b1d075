-- Which chains of headers are read, and what the reader makes of a packet's bytes: request Six.
use Rattle.std.specs.Prelude.{ℕ, zero, suc, ◌≤◌, ◌≡◌, List, [], ◌∷◌, ◌++◌, true, cond, length, eqb}
use Rattle.stacks.specs.Stacks.{ok_size}
use Rattle.header.specs.Fields.{announces, protocol, next, Right, inside, end}
use Rattle.header.specs.Answers.{header_refusal}

-- The chain of headers from the one at `s`, announced so, in what ends at `e`: its stack from the bottom up, "outermost header on top", and
-- where "the innermost packet's part after its header" begins and ends.
pub data Chain (packet : List ℕ) : ℕ → ℕ → ℕ → List ℕ → ℕ → ℕ → Type 0 where
  innermost : (announced s e : ℕ) → Right packet s announced e → announces (next packet s) ≡ 0
      → Chain packet announced s e (protocol packet s ∷ []) (inside packet s) (end packet s)
  around : (announced s e v from to : ℕ) (inner : List ℕ) → Right packet s announced e → announces (next packet s) ≡ suc v
      → Chain packet (suc v) (inside packet s) (end packet s) inner from to
      → Chain packet announced s e (inner ++ protocol packet s ∷ []) from to

-- a packet's reading: the whole chain from its first byte, no higher than h, which is a height bound for stacks of two protocols
pub record Reads (h : ℕ) (packet stack : List ℕ) (from to : ℕ) : Type 0 where
  pub bound : ok_size 2 h ≡ true
  pub chain : Chain packet 0 0 (length packet) stack from to
  pub low : length stack ≤ h

-- what the reader says of a packet: a stack and a part, or the refusal, which header met it (0 is the outermost) and where that starts
pub data Reading : Type 0 where
  found : List ℕ → ℕ → ℕ → Reading
  refused : ℕ → ℕ → ℕ → Reading

module _ (packet : List ℕ) where
  -- the reader from the header at `s` on, which is number `k` from outside and has `outer` around it, from the bottom up; so many headers, this
  -- one included, may still be taken, and "higher than h" is judged last
  abbrev pub follow : ℕ → ℕ → ℕ → ℕ → ℕ → List ℕ → Reading
  follow zero announced k s e outer = cond (eqb (header_refusal packet s announced e) 0) (refused 67 k s) (refused (header_refusal packet s announced e) k s)
  follow (suc left) announced k s e outer =
      cond (eqb (header_refusal packet s announced e) 0)
      (cond (eqb (announces (next packet s)) 0)
      (found (protocol packet s ∷ outer) (inside packet s) (end packet s))
      (follow left (announces (next packet s)) (suc k) (inside packet s) (end packet s) (protocol packet s ∷ outer)))
      (refused (header_refusal packet s announced e) k s)

-- "h out of range is 1, first", and no header met it
unfoldable pub reading_of : ℕ → List ℕ → Reading
reading_of h packet = cond (ok_size 2 h) (follow packet h 0 0 0 (length packet) []) (refused 1 0 0)
