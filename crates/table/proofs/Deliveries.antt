-- A delivery read row by row: what each row of the table holds afterwards.
use Prim.Native.Nat.{ℕ, ◌+◌, ◌*◌, ◌≤◌, ◌<◌}
use native.Mathlib.Nat.{le_trans, min-le_left}
use native.Mathlib.Decide.{ℕ_discrete}
use native.Mathlib.Omega.{arith}
use mathlib.Core.Path.{◌≡◌, sym, ap, ◌∙◌, subst}
use mathlib.Core.Logic.{by_cases}
use mathlib.Core.List.{List}
use mathlib.Core.Bool.{Bool, true, false, cond, ◌&&◌}
use lib.ListN.{length, get_or, take, drop, length-take, length-set}
use lib.Seq.{get_or-set_same, get_or-set_other}
use lib.Dec.{leb, ltb, eqb}
use borrow.Author.Tests.{ltb-true, leb-true}
use borrow.Rule.Slice.PartMut.{mid_of, put_mid}
use Rattle.lists.proofs.Tests.{both}
use Rattle.lists.proofs.Counts.{how_many_le}
use Rattle.relax.specs.Graph.{wins}
use Rattle.stacks.specs.Stacks.{ok_number}
use Rattle.stacks.proofs.Tests.{within}
use Rattle.bits.specs.Bits.{has, without, with_all}
use Rattle.network.specs.Network.{Network, stacks, link, present, neighbours}
use Rattle.hear.specs.Hearing.{Message, Rows, leader, offer, takes, cost_at, way_at, waiting_at, heard, taken}
use Rattle.hear.proofs.Laws.{heard_long, get_or_heard_costs, get_or_heard_ways, get_or_heard_waiting}
use Rattle.table.specs.Table.{Table, Sized, rows_in, with_rows_in, cleared_at, vertex, ceiling, rows_each, rows_all, place, rows_at, gateway, message, cleared, delivered, offers_taken}
use Rattle.table.specs.Answers.{ok_message_in, waits_in, ok_sender_in, message_refusal}
use Rattle.table.proofs.Order.{all_pass}
use Rattle.table.proofs.Rows.{Stack, vertex_node_lem, vertex_number_lem, vertex_below, place_split, place_below, part_long, part_read, put_long, put_here, put_there}

-- ---- what a delivery that is not refused may count on
pub record Goes (net : Network) (t : Table) (Q U D N : ℕ) : Type 0 where
  pub sender : Q < net.n
  pub receiver : U < net.n
  pub destination : D < net.n
  pub stack : Stack net N
  pub waiting : has (get_or t.waiting (place net Q D N) 0) U ≡ true
  pub linked : present net U Q ≡ true
  pub priced : get_or t.cost (place net Q D N) 0 ≤ ceiling

pub goes : (net : Network) (t : Table) (Q U D N : ℕ) → message_refusal net t Q U D N ≡ 0 → Goes net t Q U D N
unfolding ok_message_in waits_in ok_sender_in ok_number present
goes net t Q U D N e =
    let r = all_pass net.n (stacks net) (link net U Q) t Q U D N e in
    let a = both (ltb Q net.n) (ltb U net.n && (ltb D net.n && ok_number net.p net.h N)) r.0 in
    let b = both (ltb U net.n) (ltb D net.n && ok_number net.p net.h N) a.1 in
    let c = both (ltb D net.n) (ok_number net.p net.h N) b.1 in
    record {
      sender = ltb-true Q net.n a.0;
      receiver = ltb-true U net.n b.0;
      destination = ltb-true D net.n c.0;
      stack = within net.p net.h N c.1;
      waiting = r.1;
      linked = (both (leb (get_or t.cost (place net Q D N) 0) ceiling) (present net U Q) r.2).1;
      priced = leb-true (get_or t.cost (place net Q D N) 0) ceiling (both (leb (get_or t.cost (place net Q D N) 0) ceiling) (present net U Q) r.2).0;
    }

-- ---- the delivery to U of the message from Q about destination D and stack number N
module _ (net : Network) (t : Table) (Q U D N : ℕ) where
  abbrev pub told : Message
  told = message net t Q U D N

  -- the function that makes an offer to the row of stack number M, and that offer
  abbrev pub leader_of : ℕ → ℕ
  leader_of M = leader (gateway net U) told M

  abbrev pub offer_to : ℕ → ℕ
  offer_to M = offer (gateway net U) told (leader_of M)

  -- at U, the row of destination E and stack number M takes the offer
  unfoldable pub took : ℕ → ℕ → Bool
  took E M = eqb E D && (ltb (leader_of M) 192 && wins (offer_to M) (get_or t.cost (place net U E M) 0))

  -- U's rows when the message comes, and when it is heard
  abbrev rows : Rows
  rows = rows_at net U (cleared net t Q U D N)

  abbrev after : Rows
  after = heard (gateway net U) told rows

-- a list of all rows, of which those of U become `news`
abbrev with_part : Network → ℕ → List ℕ → List ℕ → List ℕ
with_part net U olds news = put_mid (U * rows_each net) (rows_each net) olds news

-- the list read at the row of a gateway for destination E and stack number M
module _ (net : Network) (U : ℕ) (node : U < net.n) (E M : ℕ) (e : E < net.n) (m : Stack net M) (olds : List ℕ) (long : length olds ≡ rows_all net) where
  row_before : get_or (mid_of (U * rows_each net) (rows_each net) olds) (vertex net E M) 0 ≡ get_or olds (place net U E M) 0
  row_before =
      part_read net.n (rows_each net) olds long U node (vertex net E M) (vertex_below net E M e m)
      ∙ ap (λ (i : ℕ). get_or olds i 0) (sym (place_split net U E M))

  module _ (news : List ℕ) (as_long : length news ≡ rows_each net) where
    at_row : (W : ℕ) → get_or (with_part net U olds news) (place net W E M) 0 ≡ get_or (with_part net U olds news) (W * rows_each net + vertex net E M) 0
    at_row W = ap (λ (i : ℕ). get_or (with_part net U olds news) i 0) (place_split net W E M)

    row_here : get_or (with_part net U olds news) (place net U E M) 0 ≡ get_or news (vertex net E M) 0
    row_here = at_row U ∙ put_here net.n (rows_each net) olds long U node news as_long (vertex net E M) (vertex_below net E M e m)

    row_there : (W : ℕ) → (W ≡ U → ⊥) → get_or (with_part net U olds news) (place net W E M) 0 ≡ get_or olds (place net W E M) 0
    row_there W other =
        at_row W
        ∙ put_there net.n (rows_each net) olds long U node news as_long W (vertex net E M) other (vertex_below net E M e m)
        ∙ ap (λ (i : ℕ). get_or olds i 0) (sym (place_split net W E M))

module _ (net : Network) (t : Table) (Q U D N : ℕ) (sized : Sized net t) (node : U < net.n) where
  -- ---- lengths
  cleared_long : length (cleared net t Q U D N).waiting ≡ rows_all net
  unfolding cleared_at
  cleared_long = length-set t.waiting (place net Q D N) (without (get_or t.waiting (place net Q D N) 0) U) ∙ sized.waits

  pub rows_long : length (rows net t Q U D N).costs ≡ rows_each net
  unfolding rows_in cleared_at
  rows_long = part_long net.n (rows_each net) t.cost sized.costs U node

  costs_long : length (after net t Q U D N).costs ≡ rows_each net
  costs_long = (heard_long (gateway net U) (told net t Q U D N) (rows net t Q U D N)).0 ∙ rows_long

  ways_long : length (after net t Q U D N).ways ≡ rows_each net
  ways_long = (heard_long (gateway net U) (told net t Q U D N) (rows net t Q U D N)).1 ∙ rows_long

  waits_long : length (after net t Q U D N).waiting ≡ rows_each net
  waits_long = (heard_long (gateway net U) (told net t Q U D N) (rows net t Q U D N)).2 ∙ rows_long

  pub delivered_sized : Sized net (delivered net t Q U D N)
  unfolding delivered with_rows_in cleared_at
  delivered_sized = record {
    costs = put_long net.n (rows_each net) t.cost sized.costs U node (after net t Q U D N).costs costs_long;
    ways = put_long net.n (rows_each net) t.way sized.ways U node (after net t Q U D N).ways ways_long;
    waits = put_long net.n (rows_each net) (cleared net t Q U D N).waiting cleared_long U node (after net t Q U D N).waiting waits_long;
  }

  module _ (E M : ℕ) (e : E < net.n) (m : Stack net M) where
    -- ---- the rows of every other gateway
    pub cost_there : (W : ℕ) → (W ≡ U → ⊥) → get_or (delivered net t Q U D N).cost (place net W E M) 0 ≡ get_or t.cost (place net W E M) 0
    unfolding delivered with_rows_in cleared_at
    cost_there W other = row_there net U node E M e m t.cost sized.costs (after net t Q U D N).costs costs_long W other

    pub way_there : (W : ℕ) → (W ≡ U → ⊥) → get_or (delivered net t Q U D N).way (place net W E M) 0 ≡ get_or t.way (place net W E M) 0
    unfolding delivered with_rows_in cleared_at
    way_there W other = row_there net U node E M e m t.way sized.ways (after net t Q U D N).ways ways_long W other

    pub waiting_there : (W : ℕ) → (W ≡ U → ⊥) → get_or (delivered net t Q U D N).waiting (place net W E M) 0 ≡ get_or (cleared net t Q U D N).waiting
        (place net W E M) 0
    unfolding delivered with_rows_in
    waiting_there W other = row_there net U node E M e m (cleared net t Q U D N).waiting cleared_long (after net t Q U D N).waiting waits_long W other

    -- ---- the rows of U
    within_rows : vertex net E M < length (rows net t Q U D N).costs
    within_rows = omega (arith, rows_long, vertex_below net E M e m)

    cost_before : get_or (rows net t Q U D N).costs (vertex net E M) 0 ≡ get_or t.cost (place net U E M) 0
    unfolding rows_in cleared_at
    cost_before = row_before net U node E M e m t.cost sized.costs

    way_before : get_or (rows net t Q U D N).ways (vertex net E M) 0 ≡ get_or t.way (place net U E M) 0
    unfolding rows_in cleared_at
    way_before = row_before net U node E M e m t.way sized.ways

    waiting_before : get_or (rows net t Q U D N).waiting (vertex net E M) 0 ≡ get_or (cleared net t Q U D N).waiting (place net U E M) 0
    unfolding rows_in
    waiting_before = row_before net U node E M e m (cleared net t Q U D N).waiting cleared_long

    pub takes_took : takes (gateway net U) (told net t Q U D N) (rows net t Q U D N).costs (vertex net E M) ≡ took net t Q U D N E M
    unfolding takes took
    takes_took = simp (vertex_node_lem net E M m, vertex_number_lem net E M m, cost_before)

    pub cost_here : get_or (delivered net t Q U D N).cost (place net U E M) 0 ≡ cond (took net t Q U D N E M) (offer_to net t Q U D N M)
        (get_or t.cost (place net U E M) 0)
    unfolding delivered with_rows_in cleared_at cost_at
    cost_here =
        row_here net U node E M e m t.cost sized.costs (after net t Q U D N).costs costs_long
        ∙ get_or_heard_costs (gateway net U) (told net t Q U D N) (rows net t Q U D N) (vertex net E M) within_rows
        ∙ simp (takes_took, vertex_number_lem net E M m, cost_before)

    pub way_here : get_or (delivered net t Q U D N).way (place net U E M) 0 ≡ cond (took net t Q U D N E M) (256 * Q + leader_of net t Q U D N M)
        (get_or t.way (place net U E M) 0)
    unfolding delivered with_rows_in cleared_at way_at
    way_here =
        row_here net U node E M e m t.way sized.ways (after net t Q U D N).ways ways_long
        ∙ get_or_heard_ways (gateway net U) (told net t Q U D N) (rows net t Q U D N) (vertex net E M) within_rows
        ∙ simp (takes_took, vertex_number_lem net E M m, way_before)

    pub waiting_here : get_or (delivered net t Q U D N).waiting (place net U E M) 0
        ≡ cond (took net t Q U D N E M) (with_all (get_or (cleared net t Q U D N).waiting (place net U E M) 0) (neighbours net U))
        (get_or (cleared net t Q U D N).waiting (place net U E M) 0)
    unfolding delivered with_rows_in waiting_at
    waiting_here =
        row_here net U node E M e m (cleared net t Q U D N).waiting cleared_long (after net t Q U D N).waiting waits_long
        ∙ get_or_heard_waiting (gateway net U) (told net t Q U D N) (rows net t Q U D N) (vertex net E M) within_rows
        ∙ simp (takes_took, waiting_before)

    -- ---- a row that takes the offer, and one that does not
    pub record Changes : Type 0 where
      pub cost : get_or (delivered net t Q U D N).cost (place net U E M) 0 ≡ offer_to net t Q U D N M
      pub way : get_or (delivered net t Q U D N).way (place net U E M) 0 ≡ 256 * Q + leader_of net t Q U D N M
      pub waiting : get_or (delivered net t Q U D N).waiting (place net U E M) 0 ≡ with_all (get_or (cleared net t Q U D N).waiting (place net U E M) 0)
          (neighbours net U)

    pub changes : took net t Q U D N E M ≡ true → Changes
    changes yes_took = record { cost = cost_here ∙ simp yes_took; way = way_here ∙ simp yes_took; waiting = waiting_here ∙ simp yes_took }

    pub record Stays (W : ℕ) : Type 0 where
      pub cost : get_or (delivered net t Q U D N).cost (place net W E M) 0 ≡ get_or t.cost (place net W E M) 0
      pub way : get_or (delivered net t Q U D N).way (place net W E M) 0 ≡ get_or t.way (place net W E M) 0
      pub waiting : get_or (delivered net t Q U D N).waiting (place net W E M) 0 ≡ get_or (cleared net t Q U D N).waiting (place net W E M) 0

    pub stays : (W : ℕ) → (W ≡ U → took net t Q U D N E M ≡ false) → Stays W
    stays W not_took = by_cases (ℕ_discrete W U)
        (λ q. subst Stays (sym q) (record {
          cost = cost_here ∙ simp (not_took q);
          way = way_here ∙ simp (not_took q);
          waiting = waiting_here
              ∙ simp (not_took q);
        }))
        (λ other. record { cost = cost_there W other; way = way_there W other; waiting = waiting_there W other })

-- ---- the message itself is cleared, and no other
module _ (net : Network) (t : Table) (Q U D N : ℕ) (sized : Sized net t) where
  pub cleared_row : Q < net.n → D < net.n → Stack net N → get_or (cleared net t Q U D N).waiting (place net Q D N) 0 ≡ without
      (get_or t.waiting (place net Q D N) 0) U
  unfolding cleared_at
  cleared_row q d n =
      let inside : place net Q D N < length t.waiting = omega (arith, place_below net Q D N q d n, sized.waits) in
      get_or-set_same t.waiting (place net Q D N) (without (get_or t.waiting (place net Q D N) 0) U) 0 inside

  pub kept_row : (i : ℕ) → (i ≡ place net Q D N → ⊥) → get_or (cleared net t Q U D N).waiting i 0 ≡ get_or t.waiting i 0
  unfolding cleared_at
  kept_row i other = get_or-set_other t.waiting (place net Q D N) i (without (get_or t.waiting (place net Q D N) 0) U) 0 other

-- ---- no delivery makes more offers than a gateway has rows
pub offers_most : (net : Network) (t : Table) (Q U D N : ℕ) → offers_taken net t Q U D N ≤ rows_each net
unfolding offers_taken taken rows_in
offers_most net t Q U D N =
    le_trans (how_many_le (length (rows_at net U (cleared net t Q U D N)).costs) (takes (gateway net U) (message net t Q U D N)
    (rows_at net U (cleared net t Q U D N)).costs))
    (take_le (rows_each net) (drop (U * rows_each net) (cleared net t Q U D N).cost))
  where
    take_le : (k : ℕ) (l : List ℕ) → length (take k l) ≤ k
    take_le k l = omega (arith, length-take k l, min-le_left k (length l))
