-- What one gateway does on hearing a message: the part "Deliver" of the specification, from the side of the receiver U.
use Rattle.std.specs.Prelude.{ℕ, ◌+◌, ◌-◌, ◌*◌, ◌/◌, ◌%◌, List, Bool, false, cond, ◌&&◌, length, get_or, ltb, eqb, Result, Ok, Err, Option, Some, None}
use Rattle.lists.specs.Lists.{tabulate, first_below, how_many}
use Rattle.relax.specs.Graph.{wins}
use Rattle.functions.specs.Answers.{moved_of}
use Rattle.refusal.specs.declared.Refusal.{Refusal}
use Rattle.bits.specs.Bits.{with_all}

-- The hearing gateway: p protocols, how many stacks there are, the word of its neighbours, and for each function's number the word
-- of that function: 0 where the gateway can't, v where it can at price v - 1.
pub record Gateway : Type 0 where
  pub p : ℕ
  pub most : ℕ
  pub neighbours : ℕ
  pub words : ℕ → ℕ

-- The message: who sent it, about which destination and stack, the sender's cost c, and the cost of the link back to the sender.
pub record Message : Type 0 where
  pub sender : ℕ
  pub destination : ℕ
  pub number : ℕ
  pub cost : ℕ
  pub link : ℕ

-- The gateway's own rows, by destination and then by stack number.
pub record Rows : Type 0 where
  pub costs : List ℕ
  pub ways : List ℕ
  pub waiting : List ℕ

-- the answer is this number
abbrev pub is_number : ℕ → Result (Option ℕ) Refusal → Bool
is_number m (Ok (Some n)) = eqb n m
is_number m (Ok None) = false
is_number m (Err r) = false

module _ (g : Gateway) (m : Message) where
  -- the gateway has f, and f makes the stack that was heard of, H', of the stack with number n
  unfoldable pub leads_by : ℕ → ℕ → Bool
  leads_by n f = ltb 0 (g.words f) && is_number m.number (moved_of g.p g.most f n)

  -- the function that does; 192 where none does. ("No two functions of U lead one heard stack to the same H": the law `one_function` of proofs/Sources.antt.)
  unfoldable pub leader : ℕ → ℕ
  leader n = first_below 192 (leads_by n)

  -- "the offer is c + link(U,V) + price(U,f)"
  unfoldable pub offer : ℕ → ℕ
  offer f = m.cost + m.link + (g.words f - 1)

  -- the function that makes an offer to the row at place j, which is of destination j / S and of stack number j % S + 1
  abbrev pub leader_at : ℕ → ℕ
  leader_at j = leader (j % g.most + 1)

  -- "Where the offer is strictly below U's cost for (D, H), that row takes the offer"
  unfoldable pub takes : List ℕ → ℕ → Bool
  takes costs j = eqb (j / g.most) m.destination && (ltb (leader_at j) 192 && wins (offer (leader_at j)) (get_or costs j 0))

  -- ".. takes the offer, way (V, f) and a waiting bit for every neighbour of U, V included"
  unfoldable pub cost_at : Rows → ℕ → ℕ
  cost_at r j = cond (takes r.costs j) (offer (leader_at j)) (get_or r.costs j 0)

  unfoldable pub way_at : Rows → ℕ → ℕ
  way_at r j = cond (takes r.costs j) (256 * m.sender + leader_at j) (get_or r.ways j 0)

  unfoldable pub waiting_at : Rows → ℕ → ℕ
  waiting_at r j = cond (takes r.costs j) (with_all (get_or r.waiting j 0) g.neighbours) (get_or r.waiting j 0)

  -- the rows after the message is heard, and how many of them took an offer
  unfoldable pub heard : Rows → Rows
  heard r = record {
    costs = tabulate (length r.costs) (cost_at r);
    ways = tabulate (length r.costs) (way_at r);
    waiting = tabulate (length r.costs) (waiting_at r);
  }

  unfoldable pub taken : Rows → ℕ
  taken r = how_many (length r.costs) (takes r.costs)
