-- DEMAND 3: a packet whose lookup shows cost c is carried on to its destination for at most c, with any deliveries between the hops and before the first.
use Prim.Native.Nat.{ℕ, zero, suc, ◌-◌, ◌≤◌, ◌<◌}
use native.Mathlib.Omega.{arith}
use mathlib.Core.Path.{◌≡◌, sym, ap, ap₂, ◌∙◌, subst}
use mathlib.Core.Logic.{◌≢◌}
use mathlib.Core.List.{List, [], ◌∷◌}
use mathlib.Core.Bool.{true, false}
use Rattle.lists.proofs.Tests.{bool_cases}
use Rattle.relax.proofs.Sound.{later_falls}
use Rattle.relax.proofs.Ceiling.{below_no_row}
use Rattle.stacks.specs.Stacks.{ok_stack, number, stack_of}
use Rattle.stacks.proofs.Laws.{stack_in_range, stack_of_number, number_of_stack}
use Rattle.functions.specs.Functions.{apply, becomes}
use Rattle.functions.proofs.Laws.{leads}
use Rattle.network.specs.Network.{Network}
use Rattle.network.proofs.Laws.{valid}
use Rattle.gateways.specs.Gateways.{weight}
use Rattle.table.specs.Table.{Table, no_row, home, vertex}
use Rattle.table.proofs.Rows.{Stack}
use Rattle.forward.specs.Forward.{forward, cost_of, next_of, function_of, result_of}
use Rattle.forward.specs.Answers.{lookup_of}
use Rattle.bridge.specs.Bridge.{graph_of}
use Rattle.promise.specs.Routes.{Network16, Reached, Later, Carried, arrived, onward}
use Rattle.promise.proofs.Reaching.{bridge, sized, reached, reached_later, later}
use Rattle.promise.proofs.Onward.{cost_is, goes_on}
use Rattle.promise.proofs.Looking.{Packet, numbered, shown, away_row, looks_home, looks_on}
use Rattle.promise.proofs.Homes.{at_home}

module _ (net : Network) (ok : Network16 net) (D : ℕ) (d : D < net.n) where
  -- costs only fall
  cost_falls : {t u : Table} → Reached net t → Later net t u → (U N : ℕ) → U < net.n → Stack net N → cost_of net u U D N ≤ cost_of net t U D N
  cost_falls {t} {u} r l U N b n =
      omega (arith, later_falls (graph_of net D) (later net ok D d (sized net r) l) (vertex net U N), cost_is net U D N b n t, cost_is net U D N b n u)

  -- a packet that is home has arrived
  home_carried : (t : Table) → Reached net t → (U c : ℕ) (stack : List ℕ) → Packet net U D stack → home net U D (number net.p stack) ≡ true
      → Carried net D t U stack c
  home_carried t r U c stack k e =
      let N = number net.p stack in
      let h = at_home net ok U D N e in
      let one : (N - 1) ∷ [] ≡ stack = sym h.one ∙ stack_of_number net.p net.h (valid net ok.valid).size stack k.stack_ok in
      let looked = looks_home net ok t r U D stack k e in
      subst (λ (s : List ℕ). Carried net D t U s c) one
      (subst (λ (X : ℕ). Carried net D t X ((N - 1) ∷ []) c) (sym h.there)
      (arrived (N - 1) (ap₂ (λ (X : ℕ) (s : List ℕ). lookup_of net t X D s) (sym h.there) one ∙ looked) h.accepted))

  -- one that is not goes on: `rest` carries it from the hop's end, for what is left
  module _ (t : Table) (r : Reached net t) (U c : ℕ) (stack : List ℕ) (k : Packet net U D stack) where
    abbrev N : ℕ
    N = number net.p stack

    abbrev W : ℕ
    W = next_of net t U D N

    abbrev f : ℕ
    f = function_of net t U D N

    abbrev result : List ℕ
    result = stack_of net.p net.h (result_of net t U D N)

    hop_carried : home net U D N ≡ false → cost_of net t U D N ≢ no_row → cost_of net t U D N ≤ c
        → ((u : Table) → Later net t u → Packet net W D result → cost_of net u W D (number net.p result) ≤ c - weight net U f W
        → Carried net D u W result (c - weight net U f W))
        → Carried net D t U stack c
    hop_carried e priced most rest =
        let g = goes_on net ok t r U D N (away_row net ok t r U D stack k e) priced in
        let size = (valid net ok.valid).size in
        let l = leads net.p net.h f N (result_of net t U D N) g.makes in
        let same : number net.p result ≡ result_of net t U D N = number_of_stack net.p net.h size (result_of net t U D N) l.to in
        let fits : ok_stack net.p net.h result ≡ true = stack_in_range net.p net.h size (result_of net t U D N) l.to in
        let makes : apply net.h f stack ≡ becomes result = ap (apply net.h f) (sym (stack_of_number net.p net.h size stack k.stack_ok)) ∙ l.makes in
        onward {t = t} {U = U} {c = c} {stack = stack} W f (cost_of net t U D N) result
        (looks_on net ok t r U D stack k e priced ∙ ap (λ (M : ℕ). forward W f M (cost_of net t U D N)) (sym same))
        g.can_it g.linked makes fits (omega (arith, g.pays))
        (λ u later_on. rest u later_on (record { node = g.next_node; destination = d; stack_ok = fits })
        (rw same (omega (arith, g.pays, cost_falls r later_on W (result_of net t U D N) g.next_node g.next_stack))))

  -- by induction on m, a bound of c: each hop costs something, and costs only fall
  carried_within : (m : ℕ) (t : Table) → Reached net t → (U c : ℕ) (stack : List ℕ) → Packet net U D stack → c < m
      → cost_of net t U D (number net.p stack) ≤ c → c < no_row → Carried net D t U stack c
  carried_within zero t r U c stack k b most fits = absurd (omega arith)
  carried_within (suc m) t r U c stack k b most fits = bool_cases (home net U D (number net.p stack))
      (λ e. home_carried t r U c stack k e)
      (λ e. hop_carried t r U c stack k e (λ (z : cost_of net t U D (number net.p stack) ≡ no_row). omega arith) most
      (λ u l next left. carried_within m u (reached_later net r l) _ _ _ next (less e) left (omega arith)))
    where
      less : home net U D (number net.p stack) ≡ false
          → c - weight net U (function_of net t U D (number net.p stack)) (next_of net t U D (number net.p stack)) < m
      less e =
          let g = goes_on net ok t r U D (number net.p stack) (away_row net ok t r U D stack k e) (λ (z : cost_of net t U D (number net.p stack) ≡ no_row).
          omega arith) in
          omega (arith, g.pays, g.some)

-- what is shown, carries, in every later table
pub carried_on : (net : Network) → Network16 net → (t u : Table) (U D W f M c : ℕ) (stack : List ℕ) → Reached net t
    → lookup_of net t U D stack ≡ forward W f M c → Later net t u → Carried net D u U stack c
carried_on net ok t u U D W f M c stack r e l =
    let s = shown net t U D W f M c stack e in
    let d = s.asked.destination in
    let N = number net.p stack in
    let n = numbered net ok stack s.asked.stack_ok in
    let top = below_no_row (graph_of net D) (bridge net ok D d).lawful (reached net ok D d r) (vertex net U N) in
    carried_within net ok D d (suc c) u (reached_later net r l) U c stack s.asked (omega arith)
    (omega (arith, s.cost, cost_falls net ok D d r l U N s.asked.node n))
    (omega (arith, s.priced, s.cost, top, cost_is net U D N s.asked.node n t))
