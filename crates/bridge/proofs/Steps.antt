-- A delivery about a destination is a delivery of the theory, and one about another destination changes nothing for this one.
use Prim.Native.Nat.{ℕ, ◌+◌, ◌≤◌, ◌<◌}
use native.Mathlib.Decide.{ℕ_discrete, dec_lt}
use native.Mathlib.Omega.{arith}
use mathlib.Core.Path.{◌≡◌, sym, ap, ap₂, ◌∙◌}
use mathlib.Core.Logic.{by_cases}
use mathlib.Core.Bool.{Bool, true, false, ◌||◌, or-true, or-false, true≢false}
use lib.ListN.{get_or}
use borrow.Author.Tests.{ltb-true, ne_eqb}
use Rattle.lists.proofs.Tests.{bool_cases}
use Rattle.relax.specs.Graph as graph
use Rattle.relax.specs.Graph.{Takes, Deliver, Same}
use Rattle.relax.proofs.Laws.{cleared_only, cleared_here}
use Rattle.bits.specs.Bits.{has, without}
use Rattle.bits.proofs.Laws.{has_without_here, has_without_there, has_with_all}
use Rattle.network.specs.Network.{Network, link, present, neighbours, refusal_of}
use Rattle.network.proofs.Laws.{valid, has_neighbours}
use Rattle.table.specs.Table.{Table, rows_each, place, cleared, delivered, Sized, vertex, vertex_node, vertex_number}
use Rattle.table.specs.Answers.{message_refusal}
use Rattle.bridge.specs.Bridge.{weight_of, graph_of, vertex_place, vertex_cost, vertex_waiting, leads_to, vertex_next, state_of}
use Rattle.table.proofs.Rows.{is_vertex, of_vertex, same_row}
use Rattle.bridge.proofs.Weights.{weight_hop}
use Rattle.bridge.proofs.States.{cost_inside, cost_outside, next_inside, next_outside, waiting_inside, waiting_outside}
use Rattle.table.proofs.Deliveries.{Goes, goes, took, Changes, changes, Stays, stays, cleared_row, kept_row}
use Rattle.bridge.proofs.Offers.{heard_below, heard_row, row_mine, offer_is, takes_took, took_takes, way_leads}

-- no gateway hears a message of its own
others : (net : Network) (U Q : ℕ) → refusal_of net ≡ 0 → present net U Q ≡ true → Q ≡ U → ⊥
unfolding present
others net U Q right e same =
    let loop : link net U Q ≡ 0 = ap (link net U) same ∙ (valid net right).no_loop U in
    omega (arith, loop, ltb-true 0 (link net U Q) e)

module _ (net : Network) (right : refusal_of net ≡ 0) (t : Table) (sized : Sized net t) (Q U D N : ℕ) (go : Goes net t Q U D N) where
  abbrev later : Table
  later = delivered net t Q U D N

  abbrev TakesAt : ℕ → Type 0
  TakesAt u = Takes (graph_of net D) (state_of net D t) (vertex net Q N) U u

  -- ---- a vertex that takes the offer
  module _ (u : ℕ) (k : TakesAt u) where
    inside : u < rows_each net
    inside = (weight_hop net u (vertex net Q N) k.hop).from

    row : vertex_place net D u ≡ place net U D (vertex_number net u)
    row = row_mine net t Q U D N go u k.mine

    changed : Changes net t Q U D N sized go.receiver D (vertex_number net u) go.destination (is_vertex net u inside).stack
    changed = changes net t Q U D N sized go.receiver D (vertex_number net u) go.destination (is_vertex net u inside).stack
        (takes_took net t Q U D N go u k.mine k)

    take_cost : vertex_cost net D later u ≡ vertex_cost net D t (vertex net Q N) + weight_of net u (vertex net Q N)
    take_cost =
        cost_inside net D later u inside
        ∙ ap (λ (i : ℕ). get_or later.cost i 0) row
        ∙ changed.cost
        ∙ offer_is net t Q U D N go u k.mine (weight_hop net u (vertex net Q N) k.hop)

    take_next : vertex_next net D later u ≡ vertex net Q N
    take_next =
        next_inside net D later u inside
        ∙ ap (λ (w : ℕ). leads_to net w (vertex_number net u)) (ap (λ (i : ℕ). get_or later.way i 0) row ∙ changed.way)
        ∙ way_leads net t Q U D N go u k.mine right (weight_hop net u (vertex net Q N) k.hop)

    -- the row is not the message's own
    untouched : get_or (cleared net t Q U D N).waiting (place net U D (vertex_number net u)) 0 ≡ get_or t.waiting (place net U D (vertex_number net u)) 0
    untouched = kept_row net t Q U D N sized (place net U D (vertex_number net u))
        (λ e. others net U Q right go.linked (sym (same_row net U D (vertex_number net u) Q D N go.destination go.destination (is_vertex net u inside).stack
        go.stack e).nodes))

    take_tells : (W : ℕ) → vertex_waiting net D later u W ≡ (vertex_waiting net D t u W || present net (vertex_node net u) W)
    take_tells W =
        waiting_inside net D later u W inside
        ∙ ap (λ (w : ℕ). has w W) (ap (λ (i : ℕ). get_or later.waiting i 0) row ∙ changed.waiting)
        ∙ has_with_all (get_or (cleared net t Q U D N).waiting (place net U D (vertex_number net u)) 0) (neighbours net U) W
        ∙ ap₂ ◌||◌
        (ap (λ (w : ℕ). has w W) (untouched ∙ ap (λ (i : ℕ). get_or t.waiting i 0) (sym row)) ∙ sym (waiting_inside net D t u W inside))
        (has_neighbours net U W ∙ ap (λ (X : ℕ). present net X W) (sym k.mine))

  -- ---- a vertex that does not
  module _ (u : ℕ) (b : u < rows_each net) (k : ¬ TakesAt u) where
    stayed : Stays net t Q U D N sized go.receiver D (vertex_number net u) go.destination (is_vertex net u b).stack (vertex_node net u)
    stayed = stays net t Q U D N sized go.receiver D (vertex_number net u) go.destination (is_vertex net u b).stack (vertex_node net u)
        (λ mine. bool_cases (took net t Q U D N D (vertex_number net u)) (λ e. absurd (k (took_takes net t Q U D N go u mine b e))) (λ e. e))

    kept_waiting : (W : ℕ) → vertex_waiting net D later u W ≡ has (get_or (cleared net t Q U D N).waiting (vertex_place net D u) 0) W
    kept_waiting W = waiting_inside net D later u W b ∙ ap (λ (w : ℕ). has w W) stayed.waiting

    -- the message's own row, and any other
    own_row : u ≡ vertex net Q N → get_or (cleared net t Q U D N).waiting (vertex_place net D u) 0 ≡ without (get_or t.waiting (vertex_place net D u) 0) U
    own_row e =
        let same : vertex_place net D u ≡ place net Q D N = ap (vertex_place net D) e ∙ heard_row net t Q U D N go in
        ap (λ (i : ℕ). get_or (cleared net t Q U D N).waiting i 0) same
        ∙ cleared_row net t Q U D N sized go.sender go.destination go.stack
        ∙ ap (λ (i : ℕ). without (get_or t.waiting i 0) U) (sym same)

    other_row : (u ≡ vertex net Q N → ⊥) → get_or (cleared net t Q U D N).waiting (vertex_place net D u) 0 ≡ get_or t.waiting (vertex_place net D u) 0
    other_row n = kept_row net t Q U D N sized (vertex_place net D u)
        (λ e. let s = same_row net (vertex_node net u) D (vertex_number net u) Q D N go.destination go.destination (is_vertex net u b).stack go.stack e in
        n (sym (of_vertex net u) ∙ ap₂ (vertex net) s.nodes s.numbers))

    keep_rest : (W : ℕ) → graph.cleared (vertex net Q N) U u W ≡ false → vertex_waiting net D later u W ≡ vertex_waiting net D t u W
    keep_rest W e =
        kept_waiting W
        ∙ by_cases (ℕ_discrete u (vertex net Q N))
        (λ q. ap (λ (w : ℕ). has w W) (own_row q) ∙ has_without_there (get_or t.waiting (vertex_place net D u) 0) U W (λ same. told_of q same))
        (λ n. ap (λ (w : ℕ). has w W) (other_row n))
        ∙ sym (waiting_inside net D t u W b)
      where
        told_of : u ≡ vertex net Q N → W ≡ U → ⊥
        told_of q same = true≢false (sym (cleared_here (vertex net Q N) U) ∙ ap₂ (graph.cleared (vertex net Q N) U) (sym q) (sym same) ∙ e)

    heard_it : (W : ℕ) → graph.cleared (vertex net Q N) U u W ≡ true → vertex_waiting net D later u W ≡ false
    heard_it W e =
        let same = cleared_only (vertex net Q N) U u W e in
        kept_waiting W ∙ ap₂ has (own_row same.0) same.1 ∙ has_without_here (get_or t.waiting (vertex_place net D u) 0) U

  -- ---- inside and outside together
  keeps : (u : ℕ) → ¬ TakesAt u → (vertex_cost net D later u ≡ vertex_cost net D t u) × (vertex_next net D later u ≡ vertex_next net D t u)
  keeps u k = by_cases (dec_lt u (rows_each net))
      (λ b. (
        cost_inside net D later u b ∙ (stayed u b k).cost ∙ sym (cost_inside net D t u b),
        next_inside net D later u b ∙ ap (λ (w : ℕ). leads_to net w (vertex_number net u)) (stayed u b k).way ∙ sym (next_inside net D t u b),
      ))
      (λ n. let b : rows_each net ≤ u = omega arith in (
        cost_outside net D later u b ∙ sym (cost_outside net D t u b),
        next_outside net D later u b ∙ sym (next_outside net D t u b),
      ))

  keep_waiting : (u W : ℕ) → ¬ TakesAt u → graph.cleared (vertex net Q N) U u W ≡ false → vertex_waiting net D later u W ≡ vertex_waiting net D t u W
  keep_waiting u W k e = by_cases (dec_lt u (rows_each net))
      (λ b. keep_rest u b k W e)
      (λ n. let b : rows_each net ≤ u = omega arith in waiting_outside net D later u W b ∙ sym (waiting_outside net D t u W b))

  heard_now : (u W : ℕ) → ¬ TakesAt u → graph.cleared (vertex net Q N) U u W ≡ true → vertex_waiting net D later u W ≡ false
  heard_now u W k e = by_cases (dec_lt u (rows_each net))
      (λ b. heard_it u b k W e)
      (λ n. waiting_outside net D later u W (omega arith))

  delivers : Deliver (graph_of net D) (state_of net D t) (state_of net D later) (vertex net Q N) U
  delivers = record {
    waits = waiting_inside net D t (vertex net Q N) U (heard_below net t Q U D N go) ∙ ap (λ (i : ℕ). has (get_or t.waiting i 0) U)
        (heard_row net t Q U D N go) ∙ go.waiting;
    take_cost = take_cost;
    take_next = take_next;
    take_waiting = λ u W k e. take_tells u k W ∙ ap (λ (b : Bool). vertex_waiting net D t u W || b) e ∙ or-true (vertex_waiting net D t u W);
    take_rest = λ u W k e. take_tells u k W ∙ ap (λ (b : Bool). vertex_waiting net D t u W || b) e ∙ or-false (vertex_waiting net D t u W);
    keep_cost = λ u k. (keeps u k).0;
    keep_next = λ u k. (keeps u k).1;
    keep_waiting = keep_waiting;
    heard = heard_now;
  }

pub delivery_is_a_step : (net : Network) → refusal_of net ≡ 0 → (D : ℕ) (t : Table) (Q U N : ℕ) → Sized net t → message_refusal net t Q U D N ≡ 0
    → Deliver (graph_of net D) (state_of net D t) (state_of net D (delivered net t Q U D N)) (vertex net Q N) U
delivery_is_a_step net right D t Q U N sized e = delivers net right t sized Q U D N (goes net t Q U D N e)

-- ---- a delivery about another destination
module _ (net : Network) (t : Table) (sized : Sized net t) (Q U E N : ℕ) (go : Goes net t Q U E N) (D : ℕ) (d : D < net.n) (other : D ≡ E → ⊥) where
  not_taken : (M : ℕ) → took net t Q U E N D M ≡ false
  unfolding took
  not_taken M = simp (ne_eqb D E other)

  module _ (v : ℕ) (b : v < rows_each net) where
    away : Stays net t Q U E N sized go.receiver D (vertex_number net v) d (is_vertex net v b).stack (vertex_node net v)
    away = stays net t Q U E N sized go.receiver D (vertex_number net v) d (is_vertex net v b).stack (vertex_node net v)
        (λ mine. not_taken (vertex_number net v))

    away_waiting : get_or (delivered net t Q U E N).waiting (vertex_place net D v) 0 ≡ get_or t.waiting (vertex_place net D v) 0
    away_waiting = away.waiting ∙ kept_row net t Q U E N sized (vertex_place net D v)
        (λ e. other (same_row net (vertex_node net v) D (vertex_number net v) Q E N d go.destination (is_vertex net v b).stack go.stack e).destinations)

  elsewhere : Same (state_of net D t) (state_of net D (delivered net t Q U E N))
  elsewhere = record {
    same_cost = λ v. by_cases (dec_lt v (rows_each net))
        (λ b. cost_inside net D t v b ∙ sym (away v b).cost ∙ sym (cost_inside net D (delivered net t Q U E N) v b))
        (λ n. let b : rows_each net ≤ v = omega arith in cost_outside net D t v b ∙ sym (cost_outside net D (delivered net t Q U E N) v b));
    same_next = λ v. by_cases (dec_lt v (rows_each net))
        (λ b. next_inside net D t v b ∙ ap (λ (w : ℕ). leads_to net w (vertex_number net v)) (sym (away v b).way)
        ∙ sym (next_inside net D (delivered net t Q U E N) v b))
        (λ n. let b : rows_each net ≤ v = omega arith in next_outside net D t v b ∙ sym (next_outside net D (delivered net t Q U E N) v b));
    same_waiting = λ v W. by_cases (dec_lt v (rows_each net))
        (λ b. waiting_inside net D t v W b ∙ ap (λ (w : ℕ). has w W) (sym (away_waiting v b)) ∙ sym (waiting_inside net D (delivered net t Q U E N) v W b))
        (λ n. let b : rows_each net ≤ v = omega arith in waiting_outside net D t v W b ∙ sym (waiting_outside net D (delivered net t Q U E N) v W b));
  }

pub delivery_elsewhere : (net : Network) (D : ℕ) → D < net.n → (t : Table) (Q U E N : ℕ) → Sized net t → message_refusal net t Q U E N ≡ 0 → (D ≡ E → ⊥)
    → Same (state_of net D t) (state_of net D (delivered net t Q U E N))
delivery_elsewhere net D d t Q U E N sized e other = elsewhere net t sized Q U E N (goes net t Q U E N e) D d other
