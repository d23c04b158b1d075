-- The rows that take an offer are the vertices that take it in the theory, and the offer is the same.
use Prim.Native.Nat.{ℕ, ◌+◌, ◌*◌, ◌/◌, ◌%◌, ◌<◌}
use native.Mathlib.Omega.{arith}
use mathlib.Core.Path.{◌≡◌, refl, sym, ap, ap₂, ◌∙◌}
use mathlib.Core.Bool.{true, ◌&&◌}
use lib.ListN.{get_or}
use lib.Dec.{ltb, eqb}
use borrow.Author.Tests.{ltb-true, lt-ltb, eq-eqb}
use Rattle.lists.proofs.Tests.{both}
use Rattle.relax.specs.Graph.{wins, Takes}
use Rattle.functions.specs.Answers.{applied_of, number_after, made}
use Rattle.network.specs.Network.{Network, refusal_of}
use Rattle.gateways.specs.Gateways.{price, weight}
use Rattle.gateways.proofs.Laws.{weight_some}
use Rattle.hear.specs.Hearing.{leader, offer}
use Rattle.table.specs.Table.{Table, rows_each, place, gateway, vertex, vertex_node, vertex_number}
use Rattle.table.proofs.Rows.{vertex_node_lem, vertex_number_lem, vertex_below}
use Rattle.table.proofs.Deliveries.{Goes, told, leader_of, offer_to, took}
use Rattle.bridge.specs.Bridge.{about, function_between, weight_of, graph_of, vertex_place, vertex_cost, vertex_made, leads_to, state_of}
use Rattle.bridge.proofs.Hops.{leader_about}
use Rattle.bridge.proofs.Weights.{Hops, weight_hop, hop_weight, hop_by}
use Rattle.bridge.proofs.States.{cost_inside}

module _ (net : Network) (t : Table) (Q U D N : ℕ) (go : Goes net t Q U D N) where
  -- the vertex that the message is about
  abbrev pub heard_of : ℕ
  heard_of = vertex net Q N

  pub heard_below : heard_of < rows_each net
  heard_below = vertex_below net Q N go.sender go.stack

  pub heard_row : vertex_place net D heard_of ≡ place net Q D N
  heard_row = rw (vertex_node_lem net Q N go.stack, vertex_number_lem net Q N go.stack) refl

  heard_cost : vertex_cost net D t heard_of ≡ get_or t.cost (place net Q D N) 0
  heard_cost = cost_inside net D t heard_of heard_below ∙ ap (λ (i : ℕ). get_or t.cost i 0) heard_row

  module _ (u : ℕ) (mine : vertex_node net u ≡ U) where
    pub row_mine : vertex_place net D u ≡ place net U D (vertex_number net u)
    row_mine = ap (λ (W : ℕ). place net W D (vertex_number net u)) mine

    pub function_leader : function_between net u heard_of ≡ leader_of net t Q U D N (vertex_number net u)
    unfolding function_between
    function_leader =
        ap₂ (λ (W M : ℕ). leader (gateway net W) (about M) (vertex_number net u)) mine (vertex_number_lem net Q N go.stack)
        ∙ sym (leader_about net (told net t Q U D N) U (vertex_number net u))

    -- "the offer is c + link(U,V) + price(U,f)"
    offer_weight : offer_to net t Q U D N (vertex_number net u) ≡ get_or t.cost (place net Q D N) 0 + weight net U
        (leader_of net t Q U D N (vertex_number net u)) Q
    unfolding offer weight price
    offer_weight = omega arith

    hop_value : Hops net u heard_of → weight_of net u heard_of ≡ weight net U (leader_of net t Q U D N (vertex_number net u)) Q
    hop_value hop = hop_weight net u heard_of hop ∙ rw (function_leader, mine, vertex_node_lem net Q N go.stack) refl

    pub offer_is : Hops net u heard_of → offer_to net t Q U D N (vertex_number net u) ≡ vertex_cost net D t heard_of + weight_of net u heard_of
    offer_is hop = offer_weight ∙ ap₂ ◌+◌ (sym heard_cost) (sym (hop_value hop))

    own_cost : u < rows_each net → vertex_cost net D t u ≡ get_or t.cost (place net U D (vertex_number net u)) 0
    own_cost b = cost_inside net D t u b ∙ ap (λ (i : ℕ). get_or t.cost i 0) row_mine

    -- the function makes of u's stack the one that was heard of
    leads_here : refusal_of net ≡ 0 → Hops net u heard_of → applied_of net.p net.h (leader_of net t Q U D N (vertex_number net u)) (vertex_number net u)
        ≡ made N
    leads_here right hop =
        ap (λ (f : ℕ). applied_of net.p net.h f (vertex_number net u)) (sym function_leader)
        ∙ (hop_by net right u heard_of hop).makes
        ∙ ap made (vertex_number_lem net Q N go.stack)

    -- so the way of a row that takes its offer names the vertex that was heard of
    pub way_leads : refusal_of net ≡ 0 → Hops net u heard_of → leads_to net (256 * Q + leader_of net t Q U D N (vertex_number net u)) (vertex_number net u)
        ≡ heard_of
    unfolding leads_to
    way_leads right hop =
        let f = leader_of net t Q U D N (vertex_number net u) in
        let led : f < 192 = omega (arith, function_leader, hop.led) in
        let node : (256 * Q + f) / 256 ≡ Q = omega arith in
        let function : (256 * Q + f) % 256 ≡ f = omega arith in
        ap₂ (λ (W g : ℕ). vertex_made net W (number_after (applied_of net.p net.h g (vertex_number net u)))) node function
        ∙ simp (leads_here right hop, lt-ltb 0 N go.stack.some)

    -- a vertex of U that takes the offer is a row that does
    pub takes_took : Takes (graph_of net D) (state_of net D t) heard_of U u → took net t Q U D N D (vertex_number net u) ≡ true
    unfolding took
    takes_took k =
        let hop = weight_hop net u heard_of k.hop in
        let led : leader_of net t Q U D N (vertex_number net u) < 192 = omega (arith, function_leader, hop.led) in
        simp (eq-eqb D D refl, lt-ltb (leader_of net t Q U D N (vertex_number net u)) 192 led) (ap₂ wins (offer_is hop) (sym (own_cost hop.from)) ∙ k.better)

    -- and a row of U that takes the offer is a vertex that does
    pub took_takes : u < rows_each net → took net t Q U D N D (vertex_number net u) ≡ true → Takes (graph_of net D) (state_of net D t) heard_of U u
    unfolding took
    took_takes b e =
        let f = leader_of net t Q U D N (vertex_number net u) in
        let old = get_or t.cost (place net U D (vertex_number net u)) 0 in
        let a = both (eqb D D) (ltb f 192 && wins (offer_to net t Q U D N (vertex_number net u)) old) e in
        let c = both (ltb f 192) (wins (offer_to net t Q U D N (vertex_number net u)) old) a.1 in
        let hop : Hops net u heard_of = record {
          from = b;
          to = heard_below;
          linked = rw (mine, vertex_node_lem net Q N go.stack) go.linked;
          led = omega (arith, function_leader, ltb-true f 192 c.0);
        } in
        record {
          mine = mine;
          hop = omega (arith, hop_value hop, weight_some net U f Q go.linked);
          better = ap₂ wins (sym (offer_is hop)) (own_cost b) ∙ c.1;
        }
