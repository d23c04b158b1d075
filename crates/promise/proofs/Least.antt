-- Once no message waits, the cost shown is the least of any route, and "no route" is said exactly where there is none.
use Prim.Native.Nat.{ℕ, ◌≤◌}
use native.Mathlib.Omega.{arith}
use mathlib.Core.Path.{◌≡◌, sym, ◌∙◌, subst}
use mathlib.Core.Logic.{◌↔◌}
use mathlib.Core.List.{List}
use mathlib.Core.Bool.{true}
use Rattle.std.specs.Prelude.{Err}
use Rattle.lists.proofs.Tests.{bool_cases}
use Rattle.refusal.specs.declared.Refusal.{Refusal}
use Rattle.relax.specs.Journeys as theory
use Rattle.relax.proofs.Sound.{sound}
use Rattle.relax.proofs.Optimal.{routed, cheapest, lost}
use Rattle.stacks.specs.Stacks.{number}
use Rattle.network.specs.Network.{Network}
use Rattle.table.specs.Table.{Table, no_row, home, vertex}
use Rattle.forward.specs.Forward.{forward, cost_of}
use Rattle.packet.specs.Packet.{ok_packet}
use Rattle.forward.specs.Answers.{lookup_of}
use Rattle.bridge.specs.Bridge.{graph_of, state_of}
use Rattle.promise.specs.Routes.{Network16, Route, Reached, Quiet}
use Rattle.promise.proofs.Reaching.{bridge, reached}
use Rattle.promise.proofs.Onward.{cost_is, home_is}
use Rattle.promise.proofs.Looking.{Packet, packet, numbered, shown, looks_none, six_none}
use Rattle.promise.proofs.Silence.{quiet}
use Rattle.promise.proofs.Routing.{route_there, route_of}

module _ (net : Network) (ok : Network16 net) where
  -- in every table that can come to be a route costs what is shown
  pub attained_always : (t : Table) (U D W f M c : ℕ) (stack : List ℕ) → Reached net t → lookup_of net t U D stack ≡ forward W f M c
      → Route net D U stack c
  attained_always t U D W f M c stack r e =
      let s = shown net t U D W f M c stack e in
      let d = s.asked.destination in
      let v = vertex net U (number net.p stack) in
      let cost = cost_is net U D (number net.p stack) s.asked.node (numbered net ok stack s.asked.stack_ok) t ∙ s.cost in
      route_of net ok D d U c stack s.asked.stack_ok
      (subst (theory.Route (graph_of net D) v) cost (routed (graph_of net D) (bridge net ok D d).lawful (reached net ok D d r) v
      (λ z. s.priced (sym cost ∙ z))))

  pub attained : (t : Table) (U D W f M c : ℕ) (stack : List ℕ) → Reached net t → Quiet net t → lookup_of net t U D stack ≡ forward W f M c
      → Route net D U stack c
  attained t U D W f M c stack r q e = attained_always t U D W f M c stack r e

  pub least : (t : Table) (U D W f M c cost : ℕ) (stack : List ℕ) → Reached net t → Quiet net t
      → lookup_of net t U D stack ≡ forward W f M c → Route net D U stack cost → c ≤ cost
  least t U D W f M c cost stack r q e p =
      let s = shown net t U D W f M c stack e in
      let d = s.asked.destination in
      let same = cost_is net U D (number net.p stack) s.asked.node (numbered net ok stack s.asked.stack_ok) t ∙ s.cost in
      omega (arith, same, cheapest (graph_of net D) (bridge net ok D d).lawful (reached net ok D d r) (quiet net ok D d t r q) (route_there net ok D d p))

  -- ---- "no route"
  module _ (t : Table) (U D : ℕ) (stack : List ℕ) (r : Reached net t) (q : Quiet net t) (k : Packet net U D stack) where
    abbrev v : ℕ
    v = vertex net U (number net.p stack)

    same_cost : (state_of net D t).cost v ≡ cost_of net t U D (number net.p stack)
    same_cost = cost_is net U D (number net.p stack) k.node (numbered net ok stack k.stack_ok) t

    pub none : (cost_of net t U D (number net.p stack) ≡ no_row) ↔ ((cost : ℕ) → ¬ Route net D U stack cost)
    none =
        let l = lost (graph_of net D) (bridge net ok D k.destination).lawful (reached net ok D k.destination r) (quiet net ok D k.destination t r q) v in (
          λ e cost p. l.0 (same_cost ∙ e) cost (route_there net ok D k.destination p),
          λ no_way_lem. sym same_cost ∙ l.1 (λ cost p. no_way_lem cost (route_of net ok D k.destination U cost stack k.stack_ok p)),
        )

    -- a home has a cost
    home_zero : home net U D (number net.p stack) ≡ true → cost_of net t U D (number net.p stack) ≡ 0
    home_zero e =
        sym same_cost ∙ (sound (graph_of net D) (reached net ok D k.destination r)).home_zero v
        (home_is net U D (number net.p stack) k.node (numbered net ok stack k.stack_ok) ∙ e)

    said : ((cost : ℕ) → ¬ Route net D U stack cost) → lookup_of net t U D stack ≡ Err Refusal.NoRoute
    said no_way_lem =
        let c = none.1 no_way_lem in
        bool_cases (home net U D (number net.p stack)) (λ e. absurd (omega (arith, c, home_zero e))) (λ e. looks_none net ok t r U D stack k e c)

  pub no_route : (t : Table) (U D : ℕ) (stack : List ℕ) → Reached net t → Quiet net t → ok_packet net U D stack ≡ true
      → (lookup_of net t U D stack ≡ Err Refusal.NoRoute) ↔ ((cost : ℕ) → ¬ Route net D U stack cost)
  no_route t U D stack r q e =
      let k = packet net t U D stack e in
      (λ e6. (none t U D stack r q k).0 (six_none net ok t r U D stack k e6), said t U D stack r q k)
