-- What the theorems speak of: sound tables, ways home, packets on their way, runs of deliveries, and how long a run can be. Definitions only.
use Rattle.std.specs.Prelude.{ℕ, zero, suc, ◌+◌, ◌-◌, ◌*◌, ◌≤◌, ◌<◌, ◌≡◌, ◌≢◌, ◌⊎◌, true, false}
use Rattle.lists.specs.Lists as lists
use Rattle.relax.specs.Graph.{Graph, State, no_row, Same, Deliver, Later}

-- no message waits
abbrev pub Quiet : State → Type 0
Quiet s = (v U : ℕ) → s.waiting v U ≡ false

-- f 0 + f 1 + .. + f (n - 1)
unfoldable pub sum : ℕ → (ℕ → ℕ) → ℕ
sum zero f = 0
sum (suc n) f = sum n f + f n

-- how many messages wait, about the first size vertices and for the first N gateways (the theorems ask that no gateway sends past those)
unfoldable pub messages : ℕ → ℕ → State → ℕ
messages size N s = sum size (λ v. sum N (λ U. lists.one (s.waiting v U)))

-- what each delivery lowers: the costs count first, so that one that falls outweighs all the messages that it sets off
unfoldable pub measure : ℕ → ℕ → State → ℕ
measure size N s = sum size s.cost * suc (size * N) + messages size N s

-- no measure is above this: every cost is `no_row`, and every message waits
abbrev pub bound : ℕ → ℕ → ℕ
bound size N = size * no_row * suc (size * N) + size * N

module _ (g : Graph) where
  open g use {weight, node, neighbour, home}

  -- v's next hop is there, and v's cost pays for it and for the rest of the way
  pub record Hop (s : State) (v : ℕ) : Type 0 where
    pub away : 0 < s.cost v
    pub hop : 0 < weight v (s.next v)
    pub pays : s.cost (s.next v) + weight v (s.next v) ≤ s.cost v

  -- homes cost 0, and whatever else has a cost has a next hop that it pays for
  pub record Sound (s : State) : Type 0 where
    pub home_zero : (v : ℕ) → home v ≡ true → s.cost v ≡ 0
    pub known : (v : ℕ) → s.cost v ≢ no_row → ((home v ≡ true) × (s.cost v ≡ 0)) ⊎ Hop s v

  -- what a message about v that waits for U tells: v has a cost, and v's gateway sends to U
  pub record Waits (s : State) (v U : ℕ) : Type 0 where
    pub priced : s.cost v ≢ no_row
    pub sent : neighbour (node v) U ≡ true

  -- Route v k: hops lead from v home, and weigh k together
  pub data Route : ℕ → ℕ → Type 0 where
    here : {v : ℕ} → home v ≡ true → Route v 0
    via : {u v k : ℕ} → 0 < weight u v → Route v k → Route u (k + weight u v)

  -- The packet at v, with c to spend, is home; or its row is known, at a cost that is not 0 and that c pays, and names a hop that c pays for,
  -- after which the packet is carried on from ANY later state of the tables.
  pub data Carried : State → ℕ → ℕ → Type 0 where
    arrived : {s : State} {v c : ℕ} → home v ≡ true → Carried s v c
    onward : {s : State} {v c : ℕ} → 0 < s.cost v → s.cost v ≤ c → 0 < weight v (s.next v) → weight v (s.next v) ≤ c
        → ((t : State) → Later g s t → Carried t (s.next v) (c - weight v (s.next v))) → Carried s v c

  -- Trip s v t u n k: n hops, for k together, take a packet from v in the state s to u in the state t, each to where the tables then say.
  -- (It only asks where a packet went; that each hop was there is what `Left` tells of it.)
  pub data Trip (s : State) (v : ℕ) : State → ℕ → ℕ → ℕ → Type 0 where
    begin : Trip s v s v 0 0
    hop : {t z : State} {u n k : ℕ} → Trip s v t u n k → home u ≡ false → Later g t z
        → Trip s v z (t.next u) (suc n) (k + weight u (t.next u))

  -- a packet at u that made n hops and spent k of c: it made no more hops than it spent, and what is left carries it home
  pub record Left (t : State) (u n k c : ℕ) : Type 0 where
    pub hops : n ≤ k
    pub spent : k ≤ c
    pub on : Carried t u (c - k)

  -- Run s t n: n deliveries lead from s to t, with any stutters between them
  pub data Run (s : State) : State → ℕ → Type 0 where
    rest : Run s s 0
    one : {t u : State} {n : ℕ} (x U : ℕ) → Run s t n → Deliver g t u x U → Run s u (suc n)
    idle : {t u : State} {n : ℕ} → Run s t n → Same t u → Run s u n
