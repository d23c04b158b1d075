-- A packet laid out field by field as RFC 8200, 3 and RFC 791, 3.1 have it: IPv4 in IPv6.
use Rattle.std.specs.Prelude.{ℕ, List, [], ◌∷◌, ◌++◌}

-- 2001:db8:: and a last byte
abbrev pub address : ℕ → List ℕ
address x = 32 ∷ 1 ∷ 13 ∷ 184 ∷ 0 ∷ 0 ∷ 0 ∷ 0 ∷ 0 ∷ 0 ∷ 0 ∷ 0 ∷ 0 ∷ 0 ∷ 0 ∷ x ∷ []

-- version 6 and no traffic class or flow label, 24 bytes of payload, next header 4 (IPv4), 64 hops, from and to
abbrev pub six : List ℕ
six = 0x60 ∷ 0 ∷ 0 ∷ 0 ∷ 0 ∷ 24 ∷ 4 ∷ 64 ∷ address 1 ++ address 2

-- version 4 and five words, 24 bytes in all, an identification, DF and no offset, 64 hops, protocol 17 (UDP), the checksum, 192.0.2.1 to 198.51.100.7
abbrev pub four : ℕ → ℕ → List ℕ
four high low = 0x45 ∷ 0 ∷ 0 ∷ 24 ∷ 0x12 ∷ 0x34 ∷ 0x40 ∷ 0 ∷ 64 ∷ 17 ∷ high ∷ low ∷ 192 ∷ 0 ∷ 2 ∷ 1 ∷ 198 ∷ 51 ∷ 100 ∷ 7 ∷ []

-- four bytes of what IPv4 carries, and two that no packet counts
abbrev pub after : List ℕ
after = 1 ∷ 2 ∷ 3 ∷ 4 ∷ 0 ∷ 0 ∷ []

abbrev pub four_in_six : List ℕ
four_in_six = six ++ four 0x3c 0x65 ++ after

-- the same with a checksum that is one too high
abbrev pub wrong_checksum : List ℕ
wrong_checksum = six ++ four 0x3c 0x66 ++ after
