-- The specification's routes are those of the theory, at the same cost.
use Prim.Native.Nat.{ℕ, ◌+◌, ◌-◌, ◌<◌}
use native.Mathlib.Omega.{arith}
use mathlib.Core.Path.{◌≡◌, sym, ap, ◌∙◌, subst}
use mathlib.Core.List.{List, [], ◌∷◌}
use mathlib.Core.Bool.{true}
use lib.Dec.{ltb}
use Rattle.lists.proofs.Tests.{both}
use Rattle.relax.specs.Journeys as theory
use Rattle.stacks.specs.Stacks.{ok_stack, number, stack_of}
use Rattle.stacks.proofs.Laws.{number_in_range, stack_in_range, stack_of_number}
use Rattle.functions.specs.Functions.{apply, becomes}
use Rattle.functions.specs.Answers.{applied_of, made}
use Rattle.functions.proofs.Laws.{leads, leading, stays_a_stack}
use Rattle.network.specs.Network.{Network, present}
use Rattle.network.proofs.Laws.{valid}
use Rattle.gateways.specs.Gateways.{can, weight}
use Rattle.gateways.proofs.Laws.{can_function, accepts_below, weight_some}
use Rattle.table.specs.Table.{rows_each, home, vertex, vertex_node, vertex_number}
use Rattle.table.proofs.Rows.{vertex_node_lem, vertex_number_lem}
use Rattle.bridge.specs.Bridge.{home_of, weight_of, graph_of}
use Rattle.promise.specs.Routes.{Network16, Route, arrived, hop}
use Rattle.promise.proofs.Reaching.{bridge}
use Rattle.promise.proofs.Onward.{home_is}
use Rattle.promise.proofs.Looking.{numbered}
use Rattle.promise.proofs.Homes.{one_ok, one_home, at_home}

module _ (net : Network) (ok : Network16 net) (D : ℕ) (d : D < net.n) where
  -- ---- from the specification to the theory
  -- a hop over stacks is one over their numbers
  module _ (U W f : ℕ) (stack result : List ℕ) (can_it : can net U f ≡ true) (fits : ok_stack net.p net.h stack ≡ true)
      (makes : apply net.h f stack ≡ becomes result) where
    result_fits : ok_stack net.p net.h result ≡ true
    result_fits = stays_a_stack net.p net.h (valid net ok.valid).size f stack result (can_function net U f can_it).1 fits makes

    numbers_hop : applied_of net.p net.h f (number net.p stack) ≡ made (number net.p result)
    numbers_hop =
        let size = (valid net ok.valid).size in
        leading net.p net.h f (number net.p stack) (number net.p result) (record {
          size = size;
          from = number_in_range net.p net.h size stack fits;
          by = (can_function net U f can_it).1;
          to = number_in_range net.p net.h size result result_fits;
          makes = ap (apply net.h f) (stack_of_number net.p net.h size stack fits) ∙ makes
              ∙ ap becomes (sym (stack_of_number net.p net.h size result result_fits));
        })

    route_hop : present net U W ≡ true → (cost : ℕ) → theory.Route (graph_of net D) (vertex net W (number net.p result)) cost
        → theory.Route (graph_of net D) (vertex net U (number net.p stack)) (weight net U f W + cost)
    route_hop linked cost rest =
        let u = vertex net U (number net.p stack) in
        let v = vertex net W (number net.p result) in
        let same : weight_of net u v ≡ weight net U f W = (bridge net ok D d).function_hop U W f (number net.p stack) (number net.p result) can_it linked
        numbers_hop in
        let sum : cost + weight_of net u v ≡ weight net U f W + cost = omega arith in
        subst (theory.Route (graph_of net D) u) sum (theory.via {u = u} {v = v} (omega (arith, same, weight_some net U f W linked)) rest)

  pub route_there : {U cost : ℕ} {stack : List ℕ} → Route net D U stack cost → theory.Route (graph_of net D) (vertex net U (number net.p stack)) cost
  route_there (arrived x e) =
      let b = accepts_below net D x e in
      let n = numbered net ok (x ∷ []) (one_ok net ok x b.1) in
      theory.here (home_is net D D (number net.p (x ∷ [])) b.0 n ∙ one_home net ok D x e)
  route_there (hop U W f cost stack result can_it linked fits makes rest) = route_hop U W f stack result can_it fits makes linked cost (route_there rest)

  -- ---- and back
  -- the packet that stands at a vertex
  abbrev stack_at : ℕ → List ℕ
  stack_at v = stack_of net.p net.h (vertex_number net v)

  home_test : (v : ℕ) → home_of net D v ≡ true → home net (vertex_node net v) D (vertex_number net v) ≡ true
  unfolding home_of
  home_test v e = (both (ltb v (rows_each net)) (home net (vertex_node net v) D (vertex_number net v)) e).1

  home_route : (v : ℕ) → home_of net D v ≡ true → Route net D (vertex_node net v) (stack_at v) 0
  home_route v e =
      let h = at_home net ok (vertex_node net v) D (vertex_number net v) (home_test v e) in
      subst (λ (s : List ℕ). Route net D (vertex_node net v) s 0) (sym h.one)
      (subst (λ (X : ℕ). Route net D X ((vertex_number net v - 1) ∷ []) 0) (sym h.there) (arrived (vertex_number net v - 1) h.accepted))

  hop_route : (u v k : ℕ) → 0 < weight_of net u v → Route net D (vertex_node net v) (stack_at v) k → Route net D (vertex_node net u) (stack_at u)
      (k + weight_of net u v)
  hop_route u v k there rest =
      let w = (bridge net ok D d).hop_function u v there in
      let f = w.0 in
      let by = w.1 in
      let l = leads net.p net.h f (vertex_number net u) (vertex_number net v) by.makes in
      let fits = stack_in_range net.p net.h l.size (vertex_number net u) l.from in
      let sum : weight net (vertex_node net u) f (vertex_node net v) + k ≡ k + weight_of net u v = omega (arith, by.weighs) in
      subst (Route net D (vertex_node net u) (stack_at u)) sum (hop (vertex_node net u) (vertex_node net v) f k (stack_at u) (stack_at v) by.has_it
      by.linked fits l.makes rest)

  pub route_back : {v k : ℕ} → theory.Route (graph_of net D) v k → Route net D (vertex_node net v) (stack_at v) k
  route_back (theory.here {v = v} e) = home_route v e
  route_back (theory.via {u = u} {v = v} {k = k} there rest) = hop_route u v k there (route_back rest)

  -- the packet at the vertex of U and a stack's number is that of U and the stack
  module _ (U cost : ℕ) (stack : List ℕ) (fits : ok_stack net.p net.h stack ≡ true) where
    abbrev v : ℕ
    v = vertex net U (number net.p stack)

    same_stack : stack_at v ≡ stack
    same_stack =
        ap (stack_of net.p net.h) (vertex_number_lem net U (number net.p stack) (numbered net ok stack fits))
        ∙ stack_of_number net.p net.h (valid net ok.valid).size stack fits

    pub route_of : theory.Route (graph_of net D) v cost → Route net D U stack cost
    route_of p =
        subst (λ (s : List ℕ). Route net D U s cost) same_stack
        (subst (λ (X : ℕ). Route net D X (stack_at v) cost) (vertex_node_lem net U (number net.p stack) (numbered net ok stack fits)) (route_back p))
