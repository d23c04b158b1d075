-- The model: a weighted graph, the table that its gateways keep, and what the delivery of one message does to it. Definitions only.
-- Vertices, gateways, weights and costs are numbers, so that a theorem here serves every layout of a table in memory.
use Rattle.std.specs.Prelude.{ℕ, ◌+◌, ◌-◌, ◌*◌, ◌≤◌, ◌<◌, ◌≡◌, Bool, true, false, ◌&&◌, ltb, eqb}

-- the cost of a vertex that knows no way home
abbrev pub no_row : ℕ
no_row = 4294967295

-- an offer wins where it is strictly below the row's cost
unfoldable pub wins : ℕ → ℕ → Bool
wins offer cost = ltb offer cost

-- cleared x U v Q: the delivery to the gateway U of the message about x clears the message about v for Q; it clears exactly this one
unfoldable pub cleared : ℕ → ℕ → ℕ → ℕ → Bool
cleared x U v Q = eqb v x && eqb Q U

-- a weighted graph, whose vertices belong to gateways
pub record Graph : Type 0 where
  -- every vertex that a hop leaves, and every home, is below this
  pub size : ℕ
  -- no hop weighs more than this
  pub dearest : ℕ
  -- weight u v: what the hop from u to v weighs; 0: there is no such hop
  pub weight : ℕ → ℕ → ℕ
  -- the gateway that owns a vertex
  pub node : ℕ → ℕ
  -- neighbour Q U: the gateway Q sends to the gateway U
  pub neighbour : ℕ → ℕ → Bool
  -- the vertices where packets are delivered
  pub home : ℕ → Bool

-- the most that a way can cost that visits no vertex twice
abbrev pub ceiling_of : Graph → ℕ
ceiling_of g = (g.size - 1) * g.dearest

-- what a graph must meet for the theorems to hold of it
pub record Lawful (g : Graph) : Type 0 where
  -- the dearest way, and one more hop, still cost less than `no_row`
  pub room : ceiling_of g + g.dearest < no_row
  -- a hop leaves a vertex below `size`
  pub hop_from : (u v : ℕ) → 0 < g.weight u v → u < g.size
  -- a hop weighs at most `dearest`
  pub hop_most : (u v : ℕ) → 0 < g.weight u v → g.weight u v ≤ g.dearest
  -- where there is a hop from u to v, the gateway of v sends to that of u
  pub hop_heard : (u v : ℕ) → 0 < g.weight u v → g.neighbour (g.node v) (g.node u) ≡ true
  -- a home is a vertex below `size`
  pub home_below : (v : ℕ) → g.home v ≡ true → v < g.size

-- the tables of all gateways, and the messages under way
pub record State : Type 0 where
  -- what it costs to get home from a vertex, as far as its gateway knows
  pub cost : ℕ → ℕ
  -- the vertex to go to next
  pub next : ℕ → ℕ
  -- waiting v U: a message about the vertex v waits for the gateway U
  pub waiting : ℕ → ℕ → Bool

-- two states that agree at every place
pub record Same (s t : State) : Type 0 where
  pub same_cost : (v : ℕ) → s.cost v ≡ t.cost v
  pub same_next : (v : ℕ) → s.next v ≡ t.next v
  pub same_waiting : (v U : ℕ) → s.waiting v U ≡ t.waiting v U

module _ (g : Graph) where
  open g use {weight, node, neighbour, home}

  -- a first state: homes cost 0 and every neighbour has yet to hear of them; nothing else is known, and no other message waits
  pub record Fresh (s : State) : Type 0 where
    pub home_cost : (v : ℕ) → home v ≡ true → s.cost v ≡ 0
    pub away_cost : (v : ℕ) → home v ≡ false → s.cost v ≡ no_row
    pub home_waiting : (v U : ℕ) → home v ≡ true → s.waiting v U ≡ neighbour (node v) U
    pub away_waiting : (v U : ℕ) → home v ≡ false → s.waiting v U ≡ false

  -- at the gateway U, the vertex u takes the offer of the message about x: to go to x, for x's cost and the hop
  pub record Takes (s : State) (x U u : ℕ) : Type 0 where
    -- u is the gateway's own
    pub mine : node u ≡ U
    -- there is a hop from u to x
    pub hop : 0 < weight u x
    -- the offer wins
    pub better : wins (s.cost x + weight u x) (s.cost u) ≡ true

  -- the message about x that waits for U is delivered, by which s becomes t
  pub record Deliver (s t : State) (x U : ℕ) : Type 0 where
    -- there is such a message
    pub waits : s.waiting x U ≡ true
    -- a vertex that takes the offer gets its cost
    pub take_cost : (u : ℕ) → Takes s x U u → t.cost u ≡ s.cost x + weight u x
    -- and goes to x
    pub take_next : (u : ℕ) → Takes s x U u → t.next u ≡ x
    -- and its gateway tells every neighbour
    pub take_waiting : (u Q : ℕ) → Takes s x U u → neighbour (node u) Q ≡ true → t.waiting u Q ≡ true
    -- and its other messages stay as they were
    pub take_rest : (u Q : ℕ) → Takes s x U u → neighbour (node u) Q ≡ false → t.waiting u Q ≡ s.waiting u Q
    -- every other vertex keeps its cost
    pub keep_cost : (u : ℕ) → ¬ Takes s x U u → t.cost u ≡ s.cost u
    -- and its next vertex
    pub keep_next : (u : ℕ) → ¬ Takes s x U u → t.next u ≡ s.next u
    -- and the messages about it, but for the delivered one
    pub keep_waiting : (u Q : ℕ) → ¬ Takes s x U u → cleared x U u Q ≡ false → t.waiting u Q ≡ s.waiting u Q
    -- which waits no more
    pub heard : (u Q : ℕ) → ¬ Takes s x U u → cleared x U u Q ≡ true → t.waiting u Q ≡ false

  -- what may happen next: a message is delivered, or nothing changes
  pub data Step (s t : State) : Type 0 where
    deliver : (x U : ℕ) → Deliver s t x U → Step s t
    stutter : Same s t → Step s t

  -- the states that can come to be: a first one, and what steps make of it
  pub data Reach : State → Type 0 where
    fresh : {s : State} → Fresh s → Reach s
    more : {s t : State} → Reach s → Step s t → Reach t

  -- t comes after s, by any number of steps
  pub data Later (s : State) : State → Type 0 where
    now : Later s s
    after : {t u : State} → Later s t → Step t u → Later s u
