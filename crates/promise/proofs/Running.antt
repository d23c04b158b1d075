-- A run is more deliveries, so that its table can come to be, and no turn of a run from such a table is refused.
use Prim.Native.Nat.{ℕ, zero, suc, ◌≤◌, ◌<◌, min}
use native.Mathlib.Omega.{arith}
use mathlib.Core.Path.{◌≡◌, refl, sym, ap, ap₂, ◌∙◌, subst}
use mathlib.Core.Bool.{Bool, true, false, cond}
use lib.ListN.{length, get_or}
use lib.Dec.{eqb}
use borrow.Author.Tests.{eqb-true, eq-eqb, lt-ltb, le-leb}
use Rattle.std.specs.Prelude.{Option, Some, None}
use Rattle.relax.specs.Journeys.{Waits}
use Rattle.relax.proofs.Ends as theory
use Rattle.bits.specs.Bits.{has}
use Rattle.bits.proofs.LowestBit.{lowest_has}
use Rattle.words.specs.Words.{found_at, first_in}
use Rattle.words.specs.declared.Found.{Found}
use Rattle.words.proofs.Answers.{Here, first_at, first_whole}
use Rattle.network.specs.Network.{Network, stacks, present}
use Rattle.network.proofs.Laws.{valid, present_nodes}
use Rattle.table.specs.Table.{Table, ceiling, rows_all, place, node_at, destination_at, number_at, vertex, delivered, offers_taken}
use Rattle.table.specs.Answers.{ok_message_in, waits_in, ok_sender_in, message_refusal_in, refusal, message_refusal, deliver_refusal, deliver_table}
use Rattle.table.specs.Run.{RunOutcome, one_more, ends, turn, steps, run_of}
use Rattle.table.proofs.Rows.{Stack, Row, is_row, of_place, vertex_node_lem, vertex_below}
use Rattle.bridge.specs.Bridge.{graph_of, state_of}
use Rattle.bridge.proofs.States.{waiting_inside}
use Rattle.promise.specs.Routes.{Network16, Reached, Later, now, delivery}
use Rattle.promise.proofs.Reaching.{sized, reached_refusal, reached_later, bridge, reached}
use Rattle.promise.proofs.Onward.{row_is, cost_is, cost_most}
use Rattle.promise.proofs.Fitting.{words_fit}

module _ (net : Network) (ok : Network16 net) where
  -- ---- a delivery that is not refused is what `deliver` leaves
  pub through : (t : Table) (Q U D N : ℕ) → Reached net t → message_refusal net t Q U D N ≡ 0 → deliver_table net t Q U D N ≡ delivered net t Q U D N
  unfolding deliver_table deliver_refusal
  through t Q U D N r e = simp (eq-eqb (refusal net t) 0 (reached_refusal net ok r), eq-eqb (message_refusal net t Q U D N) 0 e)

  pub made : (t : Table) (Q U D N : ℕ) → Reached net t → message_refusal net t Q U D N ≡ 0 → Reached net (delivered net t Q U D N)
  made t Q U D N r e = subst (Reached net) (through t Q U D N r e) (delivery Q U D N r)

  -- ---- so a run from t, or from a table s after it, is more deliveries
  module _ (t : Table) (r : Reached net t) where
    turn_later : (rest : Table → RunOutcome) → ((s : Table) → Later net t s → Later net t (rest s).table) → (s : Table) → Later net t s
        → (f : Option Found) → Later net t (turn net rest s f).table
    turn_later rest on s l None = l
    turn_later rest on s l (Some f) = go (eqb (message_refusal net s Q U D N) 0) refl
      where
        Q : ℕ
        Q = node_at net f.word

        U : ℕ
        U = f.bit

        D : ℕ
        D = destination_at net f.word

        N : ℕ
        N = number_at net f.word

        go : (b : Bool) → eqb (message_refusal net s Q U D N) 0 ≡ b
            → Later net t (cond b (one_more (offers_taken net s Q U D N) (rest (delivered net s Q U D N))) (ends (message_refusal net s Q U D N) s)).table
        go true z = on _ (subst (Later net t) (through s Q U D N (reached_later net r l) (eqb-true (message_refusal net s Q U D N) 0 z)) (delivery Q U D N l))
        go false z = l

    steps_later : (k : ℕ) (s : Table) → Later net t s → Later net t (steps net k s).table
    steps_later zero s l = l
    steps_later (suc k) s l = turn_later (steps net k) (λ u m. steps_later k u m) s l (first_in s.waiting)

  pub run_steps : (t : Table) (k : ℕ) → Reached net t → run_of net k t ≡ steps net k t
  unfolding run_of
  run_steps t k r = simp (eq-eqb (refusal net t) 0 (reached_refusal net ok r))

  pub run_later : (t : Table) (k : ℕ) → Reached net t → Later net t (run_of net k t).table
  run_later t k r = subst (λ (o : RunOutcome). Later net t o.table) (sym (run_steps t k r)) (steps_later t r k t now)

  -- and so its table can come to be
  pub run_reached : (t : Table) (k : ℕ) → Reached net t → Reached net (run_of net k t).table
  run_reached t k r = reached_later net r (run_later t k r)

  -- ---- a message that waits is delivered
  module _ (t : Table) (r : Reached net t) (Q D N U : ℕ) (q : Q < net.n) (d : D < net.n) (n : Stack net N)
      (set : has (get_or t.waiting (place net Q D N) 0) U ≡ true) where
    told : Waits (graph_of net D) (state_of net D t) (vertex net Q N) U
    told = theory.waits (graph_of net D) (bridge net ok D d).lawful (reached net ok D d r) (vertex net Q N) U
        (waiting_inside net D t (vertex net Q N) U (vertex_below net Q N q n) ∙ ap (λ (i : ℕ). has (get_or t.waiting i 0) U) (row_is net Q D N q n) ∙ set)

    linked : present net U Q ≡ true
    linked = sym ((valid net ok.valid).two_way Q U) ∙ ap (λ (X : ℕ). present net X U) (sym (vertex_node_lem net Q N n)) ∙ told.sent

    price : get_or t.cost (place net Q D N) 0 ≤ ceiling
    price = cost_most net ok t r Q D N (λ z. told.priced (cost_is net Q D N q n t ∙ z)) q d n

    pub goes_through : message_refusal net t Q U D N ≡ 0
    unfolding message_refusal_in ok_message_in waits_in ok_sender_in present
    goes_through = simp (
      lt-ltb Q net.n q,
      lt-ltb U net.n (present_nodes net U Q linked).0,
      lt-ltb D net.n d,
      le-leb 1 N n.some,
      le-leb N (stacks net) n.most,
      set,
      le-leb (get_or t.cost (place net Q D N) 0) ceiling price,
      linked,
    )

  -- ---- so the message that a turn finds is delivered
  pub found_goes : (t : Table) → Reached net t → (i U : ℕ) → first_in t.waiting ≡ found_at i U
      → message_refusal net t (node_at net i) U (destination_at net i) (number_at net i) ≡ 0
  found_goes t r i U e = goes_through t r (node_at net i) (destination_at net i) (number_at net i) U row.node row.destination row.stack set
    where
      here : Here t.waiting 0 (min (length t.waiting) (length t.waiting)) i U
      here = first_at t.waiting 0 (length t.waiting) i U (first_whole t.waiting ∙ e)

      low : i < rows_all net
      low = omega (arith, here.inside, (sized net r).waits)

      row : Row net i
      row = is_row net i low

      some : 0 < get_or t.waiting i 0
      some = omega (arith, here.waits)

      set : has (get_or t.waiting (place net (node_at net i) (destination_at net i) (number_at net i)) 0) U ≡ true
      set =
          ap₂ (λ (j W : ℕ). has (get_or t.waiting j 0) W) (of_place net i) here.lowest_bit
          ∙ lowest_has (get_or t.waiting i 0) some (words_fit net ok.valid r i low)
