-- THE PROMISES. For a network that no call refuses, and every table that deliveries in any order make of its fresh one. proofs/Kept.antt keeps them.
use Rattle.std.specs.Prelude.{ℕ, ◌+◌, ◌≤◌, ◌<◌, ◌≡◌, ◌≢◌, ◌↔◌, ◌⊎◌, List, [], ◌∷◌, true, get_or, Ok, None}
use Rattle.stacks.specs.Stacks.{number}
use Rattle.network.specs.Network.{Network, stacks}
use Rattle.gateways.specs.Gateways.{accepts}
use Rattle.table.specs.Table.{Table, no_row, no_way, ceiling, place}
use Rattle.table.specs.Answers.{refusal, fresh_table, first_answer, ok_message, waits, message_refusal}
use Rattle.table.specs.Run.{run_of}
use Rattle.packet.specs.Packet.{ok_packet}
use Rattle.forward.specs.Forward.{forward}
use Rattle.forward.specs.Answers.{lookup_of, look_refusal}
use Rattle.carry.specs.Carry.{carry_of}
use Rattle.forward.specs.declared.Look.{Look}
use Rattle.promise.specs.Routes.{Network16, Route, Reached, Done, most_deliveries, together, rounds, Arrives, Later, Quiet, Carried}

module _ (net : Network) where
  pub record Promised : Type 0 where
    -- WHAT THE CALL FRESH LEAVES IS REACHED, and no call on a reached table is refused 1, 2 or 3.
    pub begins : (t : Table) → refusal net t ≡ 0 → Reached net (fresh_table net t)
    pub ready : (t : Table) → Reached net t → refusal net t ≡ 0
    -- DEMAND 3. "If a packet's lookup shows cost c, it can be carried on hop by hop, with more deliveries between the hops", before the first
    -- hop too, ".. and it arrives .. having spent at most c."
    pub carried_on : (t u : Table) (U D W f M c : ℕ) (stack : List ℕ) → Reached net t
        → lookup_of net t U D stack ≡ forward W f M c → Later net t u → Carried net D u U stack c
    -- Carry does so with no delivery between the hops: "it arrives with a single header its destination accepts, having spent at most c".
    pub carries : (t : Table) (U D W f M c : ℕ) (stack : List ℕ) → Reached net t
        → lookup_of net t U D stack ≡ forward W f M c → Arrives net D c (carry_of net t U D stack 16384)
    -- "Delivered if U is D and the stack is one protocol that D accepts, whatever the table holds", and only there: a route of zero hops.
    pub delivered_there : (t : Table) (D x : ℕ) → refusal net t ≡ 0 → accepts net D x ≡ true → lookup_of net t D D (x ∷ []) ≡ Ok Look.Delivered
    pub delivered_here : (t : Table) (U D : ℕ) (stack : List ℕ) → lookup_of net t U D stack ≡ Ok Look.Delivered → Route net D U stack 0
    -- "Once no message waits, c is the least cost of any route within that bound":
    -- a route attains it, and none is cheaper,
    pub attained : (t : Table) (U D W f M c : ℕ) (stack : List ℕ) → Reached net t → Quiet net t
        → lookup_of net t U D stack ≡ forward W f M c → Route net D U stack c
    pub least : (t : Table) (U D W f M c cost : ℕ) (stack : List ℕ) → Reached net t → Quiet net t
        → lookup_of net t U D stack ≡ forward W f M c → Route net D U stack cost → c ≤ cost
    -- "and 'no route' is said only where no such route exists", and everywhere there.
    pub no_route : (t : Table) (U D : ℕ) (stack : List ℕ) → Reached net t → Quiet net t → ok_packet net U D stack ≡ true
        → (look_refusal (lookup_of net t U D stack) ≡ 6) ↔ ((cost : ℕ) → ¬ Route net D U stack cost)
    -- Where there is a route the lookup answers, with a cost no greater than the route's,
    pub found : (t : Table) (U D cost : ℕ) (stack : List ℕ) → Reached net t → Quiet net t → Route net D U stack cost
        → (lookup_of net t U D stack ≡ Ok Look.Delivered)
        ⊎ ((W : ℕ) × (f : ℕ) × (M : ℕ) × (c : ℕ) × (lookup_of net t U D stack ≡ forward W f M c) × (c ≤ cost))
    -- and "no message waits" can be asked: first waiting says quiet exactly there.
    pub quiet_said : (t : Table) → Reached net t → (first_answer net t ≡ Ok None) ↔ Quiet net t
    -- WHAT THE ROWS HOLD. The way is "65,535 where there is no row", about which no message waits,
    pub no_way_lem : (t : Table) (U D N : ℕ) → Reached net t → get_or t.cost (place net U D N) 0 ≡ no_row → U < net.n → D < net.n → 1 ≤ N → N ≤ stacks net
        → (get_or t.way (place net U D N) 0 ≡ no_way) × (get_or t.waiting (place net U D N) 0 ≡ 0)
    -- "or the packet is delivered here": for each protocol that D accepts its own row keeps cost 0 and that way.
    pub home_kept : (t : Table) (D x : ℕ) → Reached net t → accepts net D x ≡ true
        → (get_or t.cost (place net D D (number net.p (x ∷ []))) 0 ≡ 0) × (get_or t.way (place net D D (number net.p (x ∷ []))) 0 ≡ no_way)
    -- NEVER 7 OR 8 FROM FRESH. No cost is above the ceiling,
    pub ceiling_kept : (t : Table) (U D N : ℕ) → Reached net t → get_or t.cost (place net U D N) 0 ≢ no_row → U < net.n → D < net.n → 1 ≤ N → N ≤ stacks net
        → get_or t.cost (place net U D N) 0 ≤ ceiling
    -- no delivery of a waiting message is refused,
    pub delivers : (t : Table) (Q U D N : ℕ) → Reached net t → ok_message net t Q U D N ≡ true → waits net t Q U D N ≡ true → message_refusal net t Q U D N ≡ 0
    -- no lookup and no carry answers 7,
    pub never_7 : (t : Table) (U D : ℕ) (stack : List ℕ) → Reached net t → look_refusal (lookup_of net t U D stack) ≢ 7
    pub carry_never_7 : (t : Table) (U D limit : ℕ) (stack : List ℕ) → Reached net t → (carry_of net t U D stack limit).refused ≢ 7
    -- and a carry with the largest step limit never runs out of it.
    pub never_8 : (t : Table) (U D : ℕ) (stack : List ℕ) → Reached net t → (carry_of net t U D stack 16384).refused ≢ 8
    -- A RUN IS MORE DELIVERIES, between two hops too, and its table is reached.
    pub run_later : (t : Table) (k : ℕ) → Reached net t → Later net t (run_of net k t).table
    pub run_reached : (t : Table) (k : ℕ) → Reached net t → Reached net (run_of net k t).table
    -- IT SETTLES. Every sequence of deliveries from the fresh table is finite, with an explicit bound:
    pub ends : (k : ℕ) (t : Table) → Done net k t → k ≤ most_deliveries net
    -- no run from a reached table is refused; one that stops before its limit has left no message waiting; runs in a row are one run; a run
    -- that is long enough leaves none waiting, and so do calls in a row, as a call's limit has 32 bits only.
    pub run_unrefused : (t : Table) (k : ℕ) → Reached net t → (run_of net k t).refused ≡ 0
    pub run_stops : (t : Table) (k : ℕ) → Reached net t → (run_of net k t).done < k → Quiet net (run_of net k t).table
    pub run_again : (t : Table) (a b : ℕ) → Reached net t → (run_of net b (run_of net a t).table).table ≡ (run_of net (a + b) t).table
    pub settles : (t : Table) (k : ℕ) → Reached net t → most_deliveries net < k → Quiet net (run_of net k t).table
    pub rounds_settle : (t : Table) (limits : List ℕ) → Reached net t → most_deliveries net < together limits → Quiet net (rounds net limits t)

-- all of it
abbrev pub Promise : Type 0
Promise = (net : Network) → Network16 net → Promised net
