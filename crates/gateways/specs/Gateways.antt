-- What each gateway can do to a packet, and at what price: the functions of "Numbers a network is made of" of the specification.
use Rattle.std.specs.Prelude.{ℕ, ◌+◌, ◌-◌, ◌*◌, List, Bool, cond, ◌&&◌, ◌||◌, get_or, leb, ltb}
use Rattle.lists.specs.Lists.{tabulate, some}
use Rattle.functions.specs.Functions.{kind_of, from_of, to_of}
use Rattle.network.specs.Network.{Network, is_node, link}

-- "for each node three square grids, protocol by protocol, of 16-bit numbers, in this order: convert a to b; wrap a in b; unwrap a from b. Row a, column b."
unfoldable pub word_at : ℕ → ℕ → List ℕ → ℕ → ℕ → ℕ → ℕ → ℕ
word_at n p functions U kind a b =
    cond (is_node n U && (leb p 8 && (ltb kind 3 && (ltb a p && ltb b p)))) (get_or functions (((U * 3 + kind) * p + a) * p + b) 0) 0

-- one node's words of one kind as an array of arrays, row a and column b; 0 outside the p protocols
abbrev pub grid_of : ℕ → ℕ → List ℕ → ℕ → ℕ → List (List ℕ)
grid_of n p functions U kind = tabulate 8 (λ a. tabulate 8 (λ b. word_at n p functions U kind a b))

-- the word of the function with a number, at U
abbrev pub word : Network → ℕ → ℕ → ℕ
word net U f = word_at net.n net.p net.functions U (kind_of f) (from_of f) (to_of f)

-- "0 means the node can't; v from 1 to 65,535 means it can at price v - 1."
unfoldable pub can : Network → ℕ → ℕ → Bool
can net U f = ltb 0 (word net U f)

unfoldable pub price : Network → ℕ → ℕ → ℕ
price net U f = word net U f - 1

-- "Using function f at U over the link to V costs link(U,V) + price(U,f)"
unfoldable pub weight : Network → ℕ → ℕ → ℕ → ℕ
weight net U f W = link net U W + price net U f

-- "A node receives a if it has convert a to anything or wrap a in anything; it receives b if it has unwrap anything from b."
unfoldable pub receives_at : ℕ → ℕ → List ℕ → ℕ → ℕ → Bool
receives_at n p functions U x =
    some p (λ b. ltb 0 (word_at n p functions U 0 x b))
    || (some p (λ b. ltb 0 (word_at n p functions U 1 x b)) || some p (λ a. ltb 0 (word_at n p functions U 2 a x)))

-- "It accepts, as a destination, exactly what it receives."
unfoldable pub accepts : Network → ℕ → ℕ → Bool
accepts net D x = receives_at net.n net.p net.functions D x
