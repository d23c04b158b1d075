-- The routing table and what the calls do to it: the part "Tables" of the specification. (A message's sender, which is V there, is Q here.)
use Rattle.std.specs.Prelude.{ℕ, ◌+◌, ◌-◌, ◌*◌, ◌/◌, ◌%◌, ◌≡◌, List, Bool, cond, ◌&&◌, length, get_or, set, eqb}
use borrow.Rule.Slice.PartMut.{mid_of, put_mid}
use Rattle.lists.specs.Lists.{tabulate}
use Rattle.relax.specs.Graph as graph
use Rattle.stacks.specs.Stacks.{one_to}
use Rattle.network.specs.Network.{Network, stacks, link, neighbours}
use Rattle.gateways.specs.Gateways.{word, receives_at}
use Rattle.bits.specs.Bits.{without}
use Rattle.hear.specs.Answers as hearing
use Rattle.hear.specs.Hearing.{Gateway, Message, Rows, heard, taken}

-- "Three lent slices, each n x n x S long."
pub record Table : Type 0 where
  pub cost : List ℕ
  pub way : List ℕ
  pub waiting : List ℕ

abbrev pub table_of : List ℕ → List ℕ → List ℕ → Table
table_of cost way waiting = record { cost = cost; way = way; waiting = waiting }

-- "4,294,967,295 is no row"; "65,535 where there is no row or the packet is delivered here"; "here called the ceiling"
abbrev pub no_row : ℕ
no_row = graph.no_row

abbrev pub no_way : ℕ
no_way = 65535

abbrev pub ceiling : ℕ
ceiling = hearing.ceiling

-- "The row for node U, destination D, stack number N is at (U x n + D) x S + N - 1."
abbrev pub place_in : ℕ → ℕ → ℕ → ℕ → ℕ → ℕ
place_in n s U D N = (U * n + D) * s + (N - 1)

-- "For each D and each protocol x that D accepts, the row at D for D and stack x": the stack of one protocol x has number x + 1
abbrev pub home_in : ℕ → ℕ → List ℕ → ℕ → ℕ → ℕ → Bool
home_in n p functions U D N = eqb U D && (one_to p N && receives_at n p functions D (N - 1))

-- where each gateway has so many rows: those of gateway U, which stand together, and the table with other rows in their place
unfoldable pub rows_in : ℕ → ℕ → Table → Rows
rows_in each U t = record {
  costs = mid_of (U * each) each t.cost;
  ways = mid_of (U * each) each t.way;
  waiting = mid_of (U * each) each t.waiting;
}

unfoldable pub with_rows_in : ℕ → ℕ → Table → Rows → Table
with_rows_in each U t r = record {
  cost = put_mid (U * each) each t.cost r.costs;
  way = put_mid (U * each) each t.way r.ways;
  waiting = put_mid (U * each) each t.waiting r.waiting;
}

-- the table with bit U cleared in the row at a place
unfoldable pub cleared_at : Table → ℕ → ℕ → Table
cleared_at t at U = record { cost = t.cost; way = t.way; waiting = set t.waiting at (without (get_or t.waiting at 0) U) }

-- ---- with n nodes and s stacks, the delivery of the message from Q to U about destination D and stack number N
-- "Bit U in V's row for (D, H') is cleared."
abbrev pub cleared_in : ℕ → ℕ → Table → ℕ → ℕ → ℕ → ℕ → Table
cleared_in n s t Q U D N = cleared_at t (place_in n s Q D N) U

-- "Let c be that row's cost": the message carries the cost that the sender's row has now
abbrev pub cost_in : ℕ → ℕ → Table → ℕ → ℕ → ℕ → ℕ
cost_in n s t Q D N = get_or t.cost (place_in n s Q D N) 0

abbrev pub message_in : ℕ → ℕ → ℕ → Table → ℕ → ℕ → ℕ → Message
message_in n s back t Q D N = record { sender = Q; destination = D; number = N; cost = cost_in n s t Q D N; link = back }

-- g is the gateway U, and `back` what its link to Q costs: the table after the delivery, and "how many rows took an offer"
module _ (n : ℕ) (g : Gateway) (back : ℕ) (t : Table) (Q U D N : ℕ) where
  abbrev pub delivered_in : Table
  delivered_in =
      with_rows_in (n * g.most) U (cleared_in n g.most t Q U D N)
      (heard g (message_in n g.most back t Q D N) (rows_in (n * g.most) U (cleared_in n g.most t Q U D N)))

  abbrev pub offers_in : ℕ
  offers_in = taken g (message_in n g.most back t Q D N) (rows_in (n * g.most) U (cleared_in n g.most t Q U D N))

module _ (net : Network) where
  -- how many rows one gateway has, and how many there are in all
  abbrev pub rows_each : ℕ
  rows_each = net.n * stacks net

  abbrev pub rows_all : ℕ
  rows_all = net.n * rows_each

  -- of this network the place of a row
  abbrev pub place : ℕ → ℕ → ℕ → ℕ
  place U D N = place_in net.n (stacks net) U D N

  -- so the row at place i is of this node, this destination and this stack number
  abbrev pub node_at : ℕ → ℕ
  node_at i = i / stacks net / net.n

  abbrev pub destination_at : ℕ → ℕ
  destination_at i = i / stacks net % net.n

  abbrev pub number_at : ℕ → ℕ
  number_at i = i % stacks net + 1

  -- the rows about one destination, over all gateways: the one of node U and stack number N is number U x S + N - 1 of them
  abbrev pub vertex : ℕ → ℕ → ℕ
  vertex U N = U * stacks net + (N - 1)

  abbrev pub vertex_node : ℕ → ℕ
  vertex_node v = v / stacks net

  abbrev pub vertex_number : ℕ → ℕ
  vertex_number v = v % stacks net + 1

  -- of this network the homes
  unfoldable pub home : ℕ → ℕ → ℕ → Bool
  home U D N = home_in net.n net.p net.functions U D N

  abbrev pub home_at : ℕ → Bool
  home_at i = home (node_at i) (destination_at i) (number_at i)

  -- "has cost 0, way 65,535, and a waiting bit for each neighbour of D. All other rows: no row, 65,535, 0."
  unfoldable pub fresh : Table
  fresh = record {
    cost = tabulate rows_all (λ i. cond (home_at i) 0 no_row);
    way = tabulate rows_all (λ i. no_way);
    waiting = tabulate rows_all (λ i. cond (home_at i) (neighbours net (node_at i)) 0);
  }

  -- of this network the rows of one gateway
  abbrev pub rows_at : ℕ → Table → Rows
  rows_at U t = rows_in rows_each U t

  -- the gateway U as the one that hears
  abbrev pub gateway : ℕ → Gateway
  gateway U = record { p = net.p; most = stacks net; neighbours = neighbours net U; words = word net U }

  -- of this network the delivery of the message from Q to U about destination D and stack number N
  abbrev pub message : Table → ℕ → ℕ → ℕ → ℕ → Message
  message t Q U D N = message_in net.n (stacks net) (link net U Q) t Q D N

  abbrev pub cleared : Table → ℕ → ℕ → ℕ → ℕ → Table
  cleared t Q U D N = cleared_in net.n (stacks net) t Q U D N

  unfoldable pub delivered : Table → ℕ → ℕ → ℕ → ℕ → Table
  delivered t Q U D N = delivered_in net.n (gateway U) (link net U Q) t Q U D N

  unfoldable pub offers_taken : Table → ℕ → ℕ → ℕ → ℕ → ℕ
  offers_taken t Q U D N = offers_in net.n (gateway U) (link net U Q) t Q U D N

-- a table whose slices have the right length
pub record Sized (net : Network) (t : Table) : Type 0 where
  pub costs : length t.cost ≡ rows_all net
  pub ways : length t.way ≡ rows_all net
  pub waits : length t.waiting ≡ rows_all net
