-- The header of RFC 791 (IPv4) or RFC 8200 (IPv6) that starts at a place of a packet, field by field, and the tests that it must pass.
use Rattle.std.specs.Prelude.{ℕ, zero, suc, ◌+◌, ◌-◌, ◌*◌, ◌/◌, ◌%◌, ◌≡◌, List, Bool, true, cond, ◌&&◌, ◌||◌, get_or, leb, eqb}

-- The one's complement sum of two 16-bit numbers: a carry out of the top is added at the bottom (RFC 791, 3.1, Header Checksum).
unfoldable pub plus : ℕ → ℕ → ℕ
plus x y = cond (leb (x + y) 65535) (x + y) (x + y - 65535)

-- the version that a protocol number announces: "while IPv4's protocol or IPv6's next header is 4 or 41"; 0 where it announces none. "An IPv6
-- extension header ends the chain": its number announces none either.
unfoldable pub announces : ℕ → ℕ
announces next = cond (eqb next 4) 4 (cond (eqb next 41) 6 0)

-- the bytes from `s` on
module _ (packet : List ℕ) (s : ℕ) where
  unfoldable pub byte : ℕ → ℕ
  byte i = get_or packet (s + i) 0

  -- a 16-bit field, the higher byte first
  unfoldable pub pair : ℕ → ℕ
  pair i = 256 * byte i + byte (i + 1)

  -- RFC 791, 3.1 and RFC 8200, 3: the upper four bits of the first byte
  unfoldable pub version : ℕ
  version = byte 0 / 16

  -- "Protocol 0 is IPv4, 1 is IPv6."
  unfoldable pub protocol : ℕ
  protocol = cond (eqb version 6) 1 0

  -- how long a header is at least: "20 bytes, or 40 where the version field is 6"
  unfoldable pub shortest : ℕ
  shortest = cond (eqb version 6) 40 20

  -- how long this one is. RFC 791, 3.1, IHL: the lower four bits of the first byte count words of four bytes. RFC 8200, 3: always 40 bytes.
  unfoldable pub header_length : ℕ
  header_length = cond (eqb version 6) 40 (4 * (byte 0 % 16))

  -- how long the packet is, header and all. RFC 791, 3.1: Total Length. RFC 8200, 3: Payload Length counts what follows the header;
  -- "IPv6's payload length is taken as it stands".
  unfoldable pub packet_length : ℕ
  packet_length = cond (eqb version 6) (40 + pair 4) (pair 2)

  -- what follows the header. RFC 791, 3.1: Protocol. RFC 8200, 3: Next Header.
  unfoldable pub next : ℕ
  next = cond (eqb version 6) (byte 6) (byte 9)

  -- the one's complement sum of the first `count` 16-bit words
  abbrev pub sum : ℕ → ℕ
  sum zero = 0
  sum (suc count) = plus (sum count) (pair (2 * count))

  -- too short unless this holds, before its version is judged; `e` is where what holds the packet ends. (Where s is e there is no byte to tell the
  -- version, and neither length fits.)
  unfoldable pub ok_room : ℕ → Bool
  ok_room e = leb (s + shortest) e

  -- "The outermost header's version is 4 or 6; each inner one's is the one announced." (0: none is announced)
  unfoldable pub ok_version : ℕ → Bool
  ok_version announced = cond (eqb announced 0) (eqb version 4 || eqb version 6) (eqb version announced)

  -- RFC 791, 3.1, IHL: at least five words; and "an IPv4 total length below its header length counts as a bad header length"
  unfoldable pub ok_header : Bool
  ok_header = eqb version 6 || (leb 20 header_length && leb header_length packet_length)

  -- the packet ends where what holds it ends, or before
  unfoldable pub ok_length : ℕ → Bool
  ok_length e = leb (s + packet_length) e

  -- RFC 791, 3.1, Header Checksum: the sum of the whole header, options and checksum included, is all ones. IPv6 has none.
  unfoldable pub ok_checksum : Bool
  ok_checksum = eqb version 6 || eqb (sum (header_length / 2)) 65535

  -- RFC 791, 3.1: no Fragment Offset (13 bits) and no More Fragments (the bit above them); "DF and the reserved bit are ignored"
  unfoldable pub ok_whole : Bool
  ok_whole = eqb version 6 || eqb (pair 6 % 16384) 0

  -- a header that passes them all, announced so, in what ends at `e`
  pub record Right (announced e : ℕ) : Type 0 where
    pub room : ok_room e ≡ true
    pub versioned : ok_version announced ≡ true
    pub header : ok_header ≡ true
    pub length : ok_length e ≡ true
    pub checksum : ok_checksum ≡ true
    pub whole : ok_whole ≡ true

  -- where what follows the header begins, and where the packet ends
  abbrev pub inside : ℕ
  inside = s + header_length

  abbrev pub end : ℕ
  end = s + packet_length
