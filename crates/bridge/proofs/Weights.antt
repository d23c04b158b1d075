-- The graph of a network: what its hops tell, that they are the specification's hops, and that the graph is lawful.
use Prim.Native.Nat.{ℕ, ◌<◌}
use native.Mathlib.Omega.{arith}
use mathlib.Core.Path.{◌≡◌, refl, ◌∙◌}
use mathlib.Core.Bool.{true, ◌&&◌}
use lib.Dec.{ltb}
use borrow.Author.Tests.{ltb-true, lt-ltb}
use Rattle.lists.proofs.Tests.{bool_cases, both}
use Rattle.relax.specs.Graph.{Lawful}
use Rattle.stacks.proofs.Tests.{within}
use Rattle.functions.specs.Answers.{applied_of, made}
use Rattle.functions.proofs.Laws.{leads}
use Rattle.network.specs.Network.{Network, Numbers16, present, refusal_of}
use Rattle.network.proofs.Laws.{valid, present_nodes}
use Rattle.gateways.specs.Gateways.{can, price, weight}
use Rattle.gateways.proofs.Laws.{weight_most}
use Rattle.table.specs.Table.{rows_each, home, vertex, vertex_node, vertex_number}
use Rattle.table.proofs.Rows.{vertex_node_lem, vertex_number_lem, vertex_below}
use Rattle.bridge.specs.Bridge.{function_between, hops, weight_of, home_of, graph_of, HopBy}
use Rattle.bridge.proofs.Hops.{By, leader_by, by_small, by_leader}

module _ (net : Network) where
  -- what there is where there is a hop
  pub record Hops (u v : ℕ) : Type 0 where
    pub from : u < rows_each net
    pub to : v < rows_each net
    pub linked : present net (vertex_node net u) (vertex_node net v) ≡ true
    pub led : function_between net u v < 192

  hops_facts : (u v : ℕ) → hops net u v ≡ true → Hops u v
  unfolding hops
  hops_facts u v e =
      let a = both (ltb u (rows_each net)) (ltb v (rows_each net) && (present net (vertex_node net u) (vertex_node net v) && ltb (function_between net u v)
      192)) e in
      let b = both (ltb v (rows_each net)) (present net (vertex_node net u) (vertex_node net v) && ltb (function_between net u v) 192) a.1 in
      let c = both (present net (vertex_node net u) (vertex_node net v)) (ltb (function_between net u v) 192) b.1 in
      record {
        from = ltb-true u (rows_each net) a.0;
        to = ltb-true v (rows_each net) b.0;
        linked = c.0;
        led = ltb-true (function_between net u v) 192 c.1;
      }

  hops_yes : (u v : ℕ) → Hops u v → hops net u v ≡ true
  unfolding hops
  hops_yes u v h = simp (lt-ltb u (rows_each net) h.from, lt-ltb v (rows_each net) h.to, h.linked, lt-ltb (function_between net u v) 192 h.led)

  pub hop_weight : (u v : ℕ) → Hops u v → weight_of net u v ≡ weight net (vertex_node net u) (function_between net u v) (vertex_node net v)
  unfolding weight_of weight price
  hop_weight u v h = simp (hops_yes u v h)

  pub weight_hop : (u v : ℕ) → 0 < weight_of net u v → Hops u v
  unfolding weight_of
  weight_hop u v h = bool_cases (hops net u v)
      (λ e. hops_facts u v e)
      (λ e. let none : weight_of net u v ≡ 0 = simp e in absurd (omega arith))

  pub home_vertex : (D v : ℕ) → home_of net D v ≡ true → v < rows_each net
  unfolding home_of
  home_vertex D v e = ltb-true v (rows_each net) (both (ltb v (rows_each net)) (home net (vertex_node net v) D (vertex_number net v)) e).0

  pub neighbours_few : (Q U : ℕ) → present net Q U ≡ true → U < net.n
  neighbours_few Q U e = (present_nodes net Q U e).1

module _ (net : Network) (right : refusal_of net ≡ 0) where
  -- the graph meets what the theorems of relax ask for
  pub lawful : Numbers16 net → (D : ℕ) → Lawful (graph_of net D)
  lawful numbers D = record {
    room = omega (arith, (valid net right).room);
    hop_from = λ u v h. (weight_hop net u v h).from;
    hop_most = λ u v h. omega (
      arith,
      hop_weight net u v (weight_hop net u v h),
      weight_most net (vertex_node net u) (function_between net u v)
          (vertex_node net v) numbers.links numbers.functions,
    );
    hop_heard = λ u v h. (valid net right).two_way (vertex_node net v) (vertex_node net u) ∙ (weight_hop net u v h).linked;
    home_below = λ v h. home_vertex net D v h;
  }

  -- the function of a hop makes the stack of its end
  pub hop_by : (u v : ℕ) → Hops net u v → By net (vertex_node net u) (vertex_number net u) (vertex_number net v) (function_between net u v)
  unfolding function_between
  hop_by u v h = leader_by net (valid net right).size (vertex_node net u) (vertex_number net u) (vertex_number net v) h.led

  pub hop_function : (u v : ℕ) → 0 < weight_of net u v → (f : ℕ) × HopBy net u v f
  hop_function u v h =
      let hop = weight_hop net u v h in
      let by = hop_by u v hop in
      (function_between net u v, record { has_it = by.has_it; linked = hop.linked; makes = by.makes; weighs = hop_weight net u v hop })

  module _ (U W f N M : ℕ) (has_it : can net U f ≡ true) (linked : present net U W ≡ true) (makes : applied_of net.p net.h f N ≡ made M) where
    made_of : By net U N M f
    made_of = record { has_it = has_it; makes = makes }

    function_is : function_between net (vertex net U N) (vertex net W M) ≡ f
    unfolding function_between
    function_is =
        let l = leads net.p net.h f N M makes in
        let n = within net.p net.h N l.from in
        let m = within net.p net.h M l.to in
        rw (vertex_node_lem net U N n, vertex_number_lem net U N n, vertex_number_lem net W M m) (by_leader net l.size U N M f made_of)

    pub function_hop : weight_of net (vertex net U N) (vertex net W M) ≡ weight net U f W
    function_hop =
        let l = leads net.p net.h f N M makes in
        let n = within net.p net.h N l.from in
        let m = within net.p net.h M l.to in
        let nodes = present_nodes net U W linked in
        let hop : Hops net (vertex net U N) (vertex net W M) = record {
          from = vertex_below net U N nodes.0 n;
          to = vertex_below net W M nodes.1 m;
          linked = rw (vertex_node_lem net U N n, vertex_node_lem net W M m) linked;
          led = omega (arith, function_is, by_small net l.size U N M f made_of);
        } in
        hop_weight net (vertex net U N) (vertex net W M) hop ∙ rw (vertex_node_lem net U N n, vertex_node_lem net W M m, function_is) refl
