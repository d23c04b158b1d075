-- The network that a call is handed: its numbers, its links, and when it is refused. The part "Numbers a network is made of" of the specification.
use Rattle.std.specs.Prelude.{ℕ, ◌+◌, ◌*◌, ◌<◌, List, Bool, cond, ◌&&◌, not, length, get_or, leb, ltb, eqb}
use Rattle.lists.specs.Lists.{every, unless}
use Rattle.stacks.specs.Stacks.{ok_size, count}
use Rattle.bits.specs.Bits.{word_of}

-- n nodes, p protocols, a height bound h, and two lists of 16-bit numbers
pub record Network : Type 0 where
  pub n : ℕ
  pub p : ℕ
  pub h : ℕ
  pub links : List ℕ
  pub functions : List ℕ

-- "of 16-bit numbers", as the slices hold them
pub record Numbers16 (net : Network) : Type 0 where
  pub links : (i : ℕ) → get_or net.links i 0 < 65536
  pub functions : (i : ℕ) → get_or net.functions i 0 < 65536

abbrev pub network_of : ℕ → ℕ → ℕ → List ℕ → List ℕ → Network
network_of n p h links functions = record { n = n; p = p; h = h; links = links; functions = functions }

-- S, the number of stacks
abbrev pub stacks : Network → ℕ
stacks net = count net.p net.h

-- U is one of the nodes, of which there are at most 32
unfoldable pub is_node : ℕ → ℕ → Bool
is_node n U = leb n 32 && ltb U n

-- "Links: n x n numbers of 16 bits, row U column V. 0 is no link; 1 to 65,535 is the cost of U to V."
unfoldable pub link_at : ℕ → List ℕ → ℕ → ℕ → ℕ
link_at n links U W = cond (is_node n U && is_node n W) (get_or links (U * n + W) 0) 0

abbrev pub link : Network → ℕ → ℕ → ℕ
link net U W = link_at net.n net.links U W

-- there is a link from U to W, and so W is a neighbour of U
unfoldable pub present : Network → ℕ → ℕ → Bool
present net U W = ltb 0 (link net U W)

-- the neighbours of U as a word: bit W is set where there is a link from U to W
unfoldable pub neighbours_at : ℕ → List ℕ → ℕ → ℕ
neighbours_at n links U = word_of n (λ W. ltb 0 (link_at n links U W))

abbrev pub neighbours : Network → ℕ → ℕ
neighbours net U = neighbours_at net.n net.links U

-- Where this fails refusal 1 is given: "n, p, h or n x S out of range, or a network slice of the wrong length"
unfoldable pub ok_sizes : Network → Bool
ok_sizes net =
    leb 1 net.n && (leb net.n 32 && (ok_size net.p net.h && (leb (net.n * stacks net) 16384
    && (eqb (length net.links) (net.n * net.n) && eqb (length net.functions) (net.n * (3 * (net.p * net.p)))))))

-- Where this fails refusal 2 is given: "diagonal not 0, or a one-way link"
unfoldable pub ok_links : Network → Bool
ok_links net = every net.n (λ U. eqb (link net U U) 0 && every net.n (λ W. not (present net U W && not (present net W U))))

-- the first refusal that applies to the network; 0 where none does
unfoldable pub refusal_of : Network → ℕ
refusal_of net = unless (ok_sizes net) 1 (unless (ok_links net) 2 0)
