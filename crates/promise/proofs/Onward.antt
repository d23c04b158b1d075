-- A row with a cost, in a table that can come to be: its hop, what it costs and what the packet's stack becomes. No cost is above the ceiling.
use Prim.Native.Nat.{ℕ, ◌+◌, ◌-◌, ◌≤◌, ◌<◌}
use native.Mathlib.Nat.{mul-le-mul_right}
use native.Mathlib.Omega.{arith}
use mathlib.Core.Path.{◌≡◌, refl, sym, ap, ap₂, ◌∙◌}
use mathlib.Core.Logic.{◌≢◌, ⊎_elim}
use mathlib.Core.Bool.{true, true≢false}
use lib.ListN.{get_or}
use borrow.Author.Tests.{lt-ltb, le-leb}
use Rattle.relax.specs.Journeys.{Hop}
use Rattle.relax.proofs.Sound.{sound}
use Rattle.relax.proofs.Ceiling as theory
use Rattle.stacks.proofs.Tests.{within}
use Rattle.functions.specs.Answers.{applied_of, made}
use Rattle.functions.proofs.Laws.{leads}
use Rattle.network.specs.Network.{Network, present}
use Rattle.network.proofs.Laws.{valid, present_nodes}
use Rattle.gateways.specs.Gateways.{can, weight}
use Rattle.gateways.proofs.Laws.{weight_some}
use Rattle.table.specs.Table.{Table, no_row, ceiling, rows_each, place, home, vertex}
use Rattle.table.proofs.Rows.{Stack, vertex_node_lem, vertex_number_lem, vertex_below}
use Rattle.forward.specs.Forward.{cost_of, next_of, function_of, result_of, ok_row}
use Rattle.bridge.specs.Bridge.{home_of, weight_of, graph_of, vertex_place, leads_to, state_of}
use Rattle.bridge.specs.Bridge as bridged
use Rattle.bridge.proofs.States.{cost_inside, next_inside}
use Rattle.promise.specs.Routes.{Network16, Reached}
use Rattle.promise.proofs.Reaching.{bridge, reached}
use Rattle.promise.proofs.Ways.{Away, led}

-- ---- the row of U for D and the stack number N, as the theory sees it
module _ (net : Network) (U D N : ℕ) (u : U < net.n) (n : Stack net N) where
  pub row_is : vertex_place net D (vertex net U N) ≡ place net U D N
  row_is = rw (vertex_node_lem net U N n, vertex_number_lem net U N n) refl

  pub cost_is : (t : Table) → bridged.vertex_cost net D t (vertex net U N) ≡ cost_of net t U D N
  cost_is t = cost_inside net D t (vertex net U N) (vertex_below net U N u n) ∙ ap (λ (i : ℕ). get_or t.cost i 0) row_is

  pub home_is : home_of net D (vertex net U N) ≡ home net U D N
  unfolding home_of
  home_is = simp (lt-ltb (vertex net U N) (rows_each net) (vertex_below net U N u n), vertex_node_lem net U N n, vertex_number_lem net U N n)

  pub next_is : (t : Table) → 0 < result_of net t U D N → bridged.vertex_next net D t (vertex net U N) ≡ vertex net (next_of net t U D N)
      (result_of net t U D N)
  unfolding leads_to
  next_is t some =
      next_inside net D t (vertex net U N) (vertex_below net U N u n)
      ∙ ap₂ (λ (i k : ℕ). leads_to net (get_or t.way i 0) k) row_is (vertex_number_lem net U N n)
      ∙ simp (lt-ltb 0 (result_of net t U D N) some)

module _ (net : Network) (ok : Network16 net) (t : Table) (r : Reached net t) (U D N : ℕ) where
  -- no cost is above the ceiling: there are at most 16,384 vertices
  pub cost_most : cost_of net t U D N ≢ no_row → U < net.n → D < net.n → Stack net N → cost_of net t U D N ≤ ceiling
  cost_most priced u d n =
      let e = cost_is net U D N u n t in
      let few : rows_each net - 1 ≤ 16383 = omega (arith, (valid net ok.valid).room) in
      omega (
        arith,
        e,
        theory.ceiling (graph_of net D) (bridge net ok D d).lawful (reached net ok D d r) (vertex net U N)
            (λ (z : bridged.vertex_cost net D t (vertex net U N) ≡ no_row). priced (sym e ∙ z)),
        mul-le-mul_right 131069 few,
      )

  -- ---- a row with a cost that is not a home
  pub record GoesOn : Type 0 where
    -- the hop is one that the node may perform, over a link
    pub can_it : can net U (function_of net t U D N) ≡ true
    pub linked : present net U (next_of net t U D N) ≡ true
    pub makes : applied_of net.p net.h (function_of net t U D N) N ≡ made (result_of net t U D N)
    -- the next row is one of the table's
    pub next_node : next_of net t U D N < net.n
    pub next_stack : Stack net (result_of net t U D N)
    -- the cost pays for the hop, which costs something, and for the rest
    pub some : 0 < weight net U (function_of net t U D N) (next_of net t U D N)
    pub pays : cost_of net t (next_of net t U D N) D (result_of net t U D N) + weight net U (function_of net t U D N) (next_of net t U D N) ≤ cost_of net t
        U D N

  module _ (a : Away net U D N) (priced : cost_of net t U D N ≢ no_row) where
    abbrev W : ℕ
    W = next_of net t U D N

    abbrev f : ℕ
    f = function_of net t U D N

    abbrev M : ℕ
    M = result_of net t U D N

    -- the theory's hop
    hop_there : Hop (graph_of net D) (state_of net D t) (vertex net U N)
    hop_there = ⊎_elim
        (λ h. absurd (true≢false (sym h.0 ∙ home_is net U D N a.node a.stack ∙ a.away)))
        (λ h. h)
        ((sound (graph_of net D) (reached net ok D a.destination r)).known (vertex net U N) (λ z. priced (sym (cost_is net U D N a.node a.stack t) ∙ z)))

    pub goes_on : GoesOn
    goes_on =
        let l = led net ok r U D N a priced in
        let m = within net.p net.h M (leads net.p net.h f N M l.makes).to in
        let w = (present_nodes net U W l.linked).1 in
        let hop : weight_of net (vertex net U N) (vertex net W M) ≡ weight net U f W = (bridge net ok D a.destination).function_hop U W f N M l.can_it
        l.linked l.makes in
        let next = next_is net U D N a.node a.stack t m.some in
        let pays : bridged.vertex_cost net D t (vertex net W M) + weight_of net (vertex net U N) (vertex net W M) ≤ bridged.vertex_cost net D t
        (vertex net U N) = rw next at hop_there.pays in
        record {
          can_it = l.can_it;
          linked = l.linked;
          makes = l.makes;
          next_node = w;
          next_stack = m;
          some = weight_some net U f W l.linked;
          pays = omega (arith, pays, hop, cost_is net U D N a.node a.stack t, cost_is net W D M w m t);
        }

    -- so no lookup answers 7
    pub row_ok : ok_row net t U D N ≡ true
    unfolding ok_row
    row_ok =
        let g = goes_on in
        simp (
          le-leb 1 (cost_of net t U D N) (omega (arith, g.pays, g.some)),
          le-leb (cost_of net t U D N) ceiling (cost_most priced a.node a.destination a.stack),
          g.linked,
          g.can_it,
          lt-ltb 0 (result_of net t U D N) (omega (arith, g.next_stack.some)),
        )
