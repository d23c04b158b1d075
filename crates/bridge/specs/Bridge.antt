-- The table is the theory: for each destination, a network is a graph of crate relax and a table is a state over that graph.
use Rattle.std.specs.Prelude.{ℕ, ◌/◌, ◌%◌, ◌<◌, ◌≡◌, Bool, true, cond, ◌&&◌, get_or, ltb}
use Rattle.relax.specs.Graph.{Graph, State, Lawful, Same, Fresh, Deliver}
use Rattle.functions.specs.Answers.{applied_of, number_after, made}
use Rattle.bits.specs.Bits.{has}
use Rattle.network.specs.Network.{Network, present}
use Rattle.gateways.specs.Gateways.{can, weight}
use Rattle.hear.specs.Hearing.{Message, leader}
use Rattle.table.specs.Table.{Table, Sized, vertex, vertex_node, vertex_number, no_row, rows_each, place, home, fresh, gateway, delivered}
use Rattle.table.specs.Answers.{message_refusal, deliver_refusal, deliver_table}

-- a message about a stack number, of which only that number matters
abbrev pub about : ℕ → Message
about N = record { sender = 0; destination = 0; number = N; cost = 0; link = 0 }

module _ (net : Network) where
  -- ---- the graph
  -- the function that leads from u to v; 192 where none does
  unfoldable pub function_between : ℕ → ℕ → ℕ
  function_between u v = leader (gateway net (vertex_node net u)) (about (vertex_number net v)) (vertex_number net u)

  -- there is a hop from u to v: a link, and a function of u's node that makes v's stack of u's
  unfoldable pub hops : ℕ → ℕ → Bool
  hops u v = ltb u (rows_each net) && (ltb v (rows_each net) && (present net (vertex_node net u) (vertex_node net v) && ltb (function_between u v) 192))

  -- "Using function f at U over the link to V costs link(U,V) + price(U,f)"
  unfoldable pub weight_of : ℕ → ℕ → ℕ
  weight_of u v = cond (hops u v) (weight net (vertex_node net u) (function_between u v) (vertex_node net v)) 0

  unfoldable pub home_of : ℕ → ℕ → Bool
  home_of D v = ltb v (rows_each net) && home net (vertex_node net v) D (vertex_number net v)

  abbrev pub graph_of : ℕ → Graph
  graph_of D = record {
    size = rows_each net;
    dearest = 131069;
    weight = weight_of;
    node = vertex_node net;
    neighbour = present net;
    home = home_of D;
  }

  -- ---- the state
  -- where the row of a vertex for the destination D stands
  abbrev pub vertex_place : ℕ → ℕ → ℕ
  vertex_place D v = place net (vertex_node net v) D (vertex_number net v)

  unfoldable pub vertex_cost : ℕ → Table → ℕ → ℕ
  vertex_cost D t v = cond (ltb v (rows_each net)) (get_or t.cost (vertex_place D v) 0) no_row

  unfoldable pub vertex_waiting : ℕ → Table → ℕ → ℕ → Bool
  vertex_waiting D t v U = ltb v (rows_each net) && has (get_or t.waiting (vertex_place D v) 0) U

  -- the vertex of a node and the number of the stack made there; none where that is 0, which is said of a function that is not applicable
  abbrev pub vertex_made : ℕ → ℕ → ℕ
  vertex_made W M = cond (ltb 0 M) (vertex net W M) (rows_each net)

  -- the vertex that a way names at a stack number: the next node, with what the function makes of the stack
  unfoldable pub leads_to : ℕ → ℕ → ℕ
  leads_to way N = vertex_made (way / 256) (number_after (applied_of net.p net.h (way % 256) N))

  unfoldable pub vertex_next : ℕ → Table → ℕ → ℕ
  vertex_next D t v = cond (ltb v (rows_each net)) (leads_to (get_or t.way (vertex_place D v) 0) (vertex_number net v)) 0

  abbrev pub state_of : ℕ → Table → State
  state_of D t = record { cost = vertex_cost D t; next = vertex_next D t; waiting = vertex_waiting D t }

  -- the hop from u to v is by the function f
  pub record HopBy (u v f : ℕ) : Type 0 where
    pub has_it : can net (vertex_node net u) f ≡ true
    pub linked : present net (vertex_node net u) (vertex_node net v) ≡ true
    pub makes : applied_of net.p net.h f (vertex_number net u) ≡ made (vertex_number net v)
    pub weighs : weight_of u v ≡ weight net (vertex_node net u) f (vertex_node net v)

  -- ---- what is shown of them where the network is not refused, its numbers have 16 bits and D is one of its nodes (proofs/Theorems.antt)
  pub record Bridged (D : ℕ) : Type 0 where
    -- the graph meets what the theorems of relax ask for
    pub lawful : Lawful (graph_of D)
    pub neighbours_few : (Q U : ℕ) → present net Q U ≡ true → U < net.n
    -- a fresh table is a first state
    pub fresh_sized : Sized net (fresh net)
    pub fresh_is_fresh : Fresh (graph_of D) (state_of D (fresh net))
    -- a delivery about D is a delivery, and one about another destination changes nothing
    pub delivery_sized : (t : Table) (Q U E N : ℕ) → Sized net t → message_refusal net t Q U E N ≡ 0 → Sized net (delivered net t Q U E N)
    pub delivery_is_a_step : (t : Table) (Q U N : ℕ) → Sized net t → message_refusal net t Q U D N ≡ 0
        → Deliver (graph_of D) (state_of D t) (state_of D (delivered net t Q U D N)) (vertex net Q N) U
    pub delivery_elsewhere : (t : Table) (Q U E N : ℕ) → Sized net t → message_refusal net t Q U E N ≡ 0 → (D ≡ E → ⊥)
        → Same (state_of D t) (state_of D (delivered net t Q U E N))
    -- a call of deliver that is not refused is that delivery, and a refused call is none: it leaves the table
    pub call_delivers : (t : Table) (Q U E N : ℕ) → deliver_refusal net t Q U E N ≡ 0
        → (message_refusal net t Q U E N ≡ 0) × (deliver_table net t Q U E N ≡ delivered net t Q U E N)
    pub refused_is_none : (t : Table) (Q U E N : ℕ) → (deliver_refusal net t Q U E N ≡ 0 → ⊥) → deliver_table net t Q U E N ≡ t
    -- a way whose function makes no stack of the row's leads to no vertex
    pub leads_nowhere : (way N : ℕ) → number_after (applied_of net.p net.h (way % 256) N) ≡ 0 → leads_to way N ≡ rows_each net
    -- the hops are what the specification calls hops
    pub hop_function : (u v : ℕ) → 0 < weight_of u v → (f : ℕ) × HopBy u v f
    pub function_hop : (U W f N M : ℕ) → can net U f ≡ true → present net U W ≡ true → applied_of net.p net.h f N ≡ made M
        → weight_of (vertex net U N) (vertex net W M) ≡ weight net U f W
