-- "A small network, printed whole" of the specification: the examples of all crates compute with it.
use Rattle.std.specs.Prelude.{ℕ, ◌+◌, ◌*◌, List, [], ◌∷◌}
use Rattle.network.specs.Network.{Network, network_of}

-- "a is 0, b is 1"
abbrev pub a : ℕ
a = 0

abbrev pub b : ℕ
b = 1

abbrev pub wrap_a_in_b : ℕ
wrap_a_in_b = 64 + 8 * a + b

abbrev pub unwrap_a_from_b : ℕ
unwrap_a_from_b = 128 + 8 * a + b

-- "0 to 1 costs 2, back 7; 1 to 2 costs 3, back 3; 2 to 3 costs 1, back 4"
abbrev pub links : List ℕ
links = 0 ∷ 2 ∷ 0 ∷ 0 ∷ 7 ∷ 0 ∷ 3 ∷ 0 ∷ 0 ∷ 3 ∷ 0 ∷ 1 ∷ 0 ∷ 0 ∷ 4 ∷ 0 ∷ []

-- "Node 0: convert a to a, price 0. Node 1: wrap a in b, price 5. Node 2: unwrap a from b, price 1. Node 3: convert a to a, price 0."
abbrev pub functions : List ℕ
functions =
    1 ∷ 0 ∷ 0 ∷ 0 ∷ 0 ∷ 0 ∷ 0 ∷ 0 ∷ 0 ∷ 0 ∷ 0 ∷ 0
    ∷ 0 ∷ 0 ∷ 0 ∷ 0 ∷ 0 ∷ 6 ∷ 0 ∷ 0 ∷ 0 ∷ 0 ∷ 0 ∷ 0
    ∷ 0 ∷ 0 ∷ 0 ∷ 0 ∷ 0 ∷ 0 ∷ 0 ∷ 0 ∷ 0 ∷ 2 ∷ 0 ∷ 0
    ∷ 1 ∷ 0 ∷ 0 ∷ 0 ∷ 0 ∷ 0 ∷ 0 ∷ 0 ∷ 0 ∷ 0 ∷ 0 ∷ 0 ∷ []

abbrev pub smallnet : Network
smallnet = network_of 4 2 2 links functions
