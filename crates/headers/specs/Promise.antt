-- THE PROMISES about what is read from a packet: request Six. proofs/Kept.antt keeps them.
use Rattle.std.specs.Prelude.{ℕ, ◌≤◌, ◌<◌, ◌≡◌, ◌↔◌, List, [], ◌∷◌, true, length, get_or}
use Rattle.stacks.specs.Stacks.{ok_stack}
use Rattle.header.specs.Fields.{packet_length, shortest}
use Rattle.headers.specs.Examples.{four_in_six, wrong_checksum}
use Rattle.headers.specs.Chains.{Chain, Reads, found, refused, reading_of}

pub record Promised : Type 0 where
  -- "Prove which chains are read": the reader finds a reading exactly where there is one. (`read_stack` answers it wherever the buffer has room.)
  pub finds : (h : ℕ) (packet stack : List ℕ) (from to : ℕ) → (reading_of h packet ≡ found stack from to) ↔ Reads h packet stack from to
  -- ".. and that each has one reading": each packet has at most one, whatever the height bounds,
  pub one_reading : (h h' : ℕ) (packet stack stack' : List ℕ) (from from' to to' : ℕ) → Reads h packet stack from to → Reads h' packet stack' from' to'
      → (stack ≡ stack') × (from ≡ from') × (to ≡ to')
  -- and from each header on there is at most one chain.
  pub one_chain : (packet stack stack' : List ℕ) (announced s e from from' to to' : ℕ)
      → Chain packet announced s e stack from to → Chain packet announced s e stack' from' to'
      → (stack ≡ stack') × (from ≡ from') × (to ≡ to')
  -- What is read is one to h headers high: a stack of two protocols, "0 is IPv4, 1 is IPv6".
  pub height : (h : ℕ) (packet stack : List ℕ) (from to : ℕ) → Reads h packet stack from to → (1 ≤ length stack) × (length stack ≤ h)
  pub a_stack : (h : ℕ) (packet stack : List ℕ) (from to : ℕ) → Reads h packet stack from to → ok_stack 2 h stack ≡ true
  -- "the innermost packet's part after its header" lies within the given bytes.
  pub part : (h : ℕ) (packet stack : List ℕ) (from to : ℕ) → Reads h packet stack from to → (from ≤ to) × (to ≤ length packet)
  -- "Bytes after the outermost packet's length are ignored": two packets that agree up to it get the same answer. (And up
  -- to the end of the shortest header, where the packet says that it is shorter than that: such a one is refused, but for which fault depends on
  -- whether the header is there.)
  pub trailing : (h n : ℕ) (a b : List ℕ) → shortest a 0 ≤ n → packet_length a 0 ≤ n → n ≤ length a → n ≤ length b
      → ((i : ℕ) → i < n → get_or a i 0 ≡ get_or b i 0) → reading_of h a ≡ reading_of h b
  -- A packet laid out as the RFCs have it, IPv4 in IPv6, is read; a wrong checksum and one header too many are refused where they stand.
  pub example : (reading_of 12 four_in_six ≡ found (0 ∷ 1 ∷ []) 60 64) × (reading_of 12 wrong_checksum ≡ refused 65 1 40)
      × (reading_of 1 four_in_six ≡ refused 67 1 40)
