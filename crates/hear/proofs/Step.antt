-- One candidate's offer is one step of `heard`: of the functions that lead to the heard stack it alone is in turn, from its stack alone, so one row can change.
use Prim.Native.Nat.{ℕ, ◌+◌, ◌-◌, ◌*◌, ◌/◌, ◌%◌, ◌≤◌, ◌<◌}
use native.Mathlib.Omega.{arith}
use mathlib.Core.Path.{◌≡◌, refl, sym, ap, ◌∙◌, subst}
use mathlib.Core.Bool.{Bool, true, false, cond, ◌&&◌, and-false}
use lib.ListN.{length, get_or, set}
use lib.Dec.{leb, ltb}
use borrow.Author.Tests.{ltb-true, leb-true, eq-eqb, lt-ltb, le-ltb, le-leb}
use Rattle.std.specs.Prelude.{Option, Some, None}
use Rattle.lists.specs.Lists.{how_many, one}
use Rattle.lists.proofs.Tests.{both}
use Rattle.lists.proofs.Tables.{get_or_tabulate, set_tabulate}
use Rattle.lists.proofs.Counts.{how_many_more}
use Rattle.relax.specs.Graph.{wins}
use Rattle.bits.specs.Bits.{with_all}
use Rattle.hear.specs.Hearing.{Gateway, Message, Rows, leader, leader_at, offer, takes}
use Rattle.hear.specs.Steps.{candidate_of, candidate_function, place_of, offer_of, Turn}
use Rattle.hear.specs.declared.Candidate.{Candidate}
use Rattle.hear.specs.declared.Offer.{Offer}
use Rattle.hear.proofs.Sources.{led}
use Rattle.hear.proofs.Leaders.{leader_found}
use Rattle.hear.proofs.Candidates.{turn_of_function, function_low, function_turn, only, leads}
use Rattle.hear.proofs.Below.{takes_below, cost_below, way_below, waiting_below, rows_below, taken_below, place_div, place_mod, place_within, place_only, rows_eq, rows_same, taken_same, same_takes}

-- the row at the offer's place with its cost, its way and the waiting bits
abbrev pub rows_with : Offer → ℕ → Rows → Rows
rows_with o neighbours r = record {
  costs = set r.costs o.place o.cost;
  ways = set r.ways o.place o.way;
  waiting = set r.waiting o.place (with_all (get_or r.waiting o.place 0) neighbours);
}

-- the candidate that is in turn
abbrev pub in_turn : Gateway → Message → ℕ → Candidate
in_turn g m i = candidate_of g.p m.number i

-- and what it offers
abbrev pub offer_in : Gateway → Message → ℕ → Option Offer
offer_in g m i = offer_of g.most m.sender m.destination m.cost m.link (g.words (candidate_function (in_turn g m i))) (in_turn g m i)

cond_some : {A : Type 0} (b : Bool) (x o : A) → Some o ≡ cond b (Some x) None → (b ≡ true) × (o ≡ x)
cond_some true x o e = (refl, (cc))
cond_some false x o e = absurd (let z : ◌≡◌ {A = ℕ} 0 1 = cc in omega arith)

-- an offer is the one of its candidate, which the gateway has and whose stack is there
pub record Real (g : Gateway) (m : Message) (i : ℕ) (o : Offer) : Type 0 where
  pub has : 0 < g.words (candidate_function (in_turn g m i))
  pub some : 1 ≤ (in_turn g m i).source
  pub low : (in_turn g m i).source ≤ g.most
  pub is : o ≡ record {
    place = place_of g.most m.destination (in_turn g m i).source;
    cost = m.cost + m.link + (g.words (candidate_function (in_turn g m i)) - 1);
    way = 256 * m.sender + candidate_function (in_turn g m i);
  }

pub real : (g : Gateway) (m : Message) (i : ℕ) (o : Offer) → Some o ≡ offer_in g m i → Real g m i o
unfolding offer_of
real g m i o e =
    let n = (in_turn g m i).source in
    let f = candidate_function (in_turn g m i) in
    let q = cond_some (ltb 0 (g.words f) && (leb 1 n && leb n g.most)) _ o e in
    let a = both (ltb 0 (g.words f)) (leb 1 n && leb n g.most) q.0 in
    let b = both (leb 1 n) (leb n g.most) a.1 in
    record { has = ltb-true 0 (g.words f) a.0; some = leb-true 1 n b.0; low = leb-true n g.most b.1; is = q.1 }

-- its place is one in the rows
pub offer_inside : (g : Gateway) (m : Message) (i long : ℕ) (o : Offer) → Some o ≡ offer_in g m i → (m.destination + 1) * g.most ≤ long → o.place < long
offer_inside g m i long o e wide =
    let q = real g m i o e in
    subst (λ (x : Offer). x.place < long) (sym q.is) (place_within g.most m.destination (in_turn g m i).source long q.some q.low wide)

module _ (g : Gateway) (m : Message) (i : ℕ) (z : Turn g.p m.number i) (within : m.number ≤ g.most) (bounded : g.most ≤ 16384)
    (r : Rows) (wide : (m.destination + 1) * g.most ≤ length r.costs) where
  abbrev n : ℕ
  n = (in_turn g m i).source

  abbrev f : ℕ
  f = candidate_function (in_turn g m i)

  -- the row that can change
  abbrev place : ℕ
  place = place_of g.most m.destination n

  -- another row takes the same as before
  elsewhere : (j : ℕ) → (j ≡ place → ⊥) → takes_below g m i r.costs j ≡ takes_below g m (i + 1) r.costs j
  elsewhere j other =
      same_takes g m i r.costs j
      (λ t e. other (place_only g.most m.destination n j t.there (only g m i z within bounded (j % g.most + 1) t.led e).1))

  -- where the gateway has the function and there is such a row
  module _ (has : 0 < g.words f) (some : 1 ≤ n) (low : n ≤ g.most) where
    abbrev made : Offer
    made = record { place = place; cost = m.cost + m.link + (g.words f - 1); way = 256 * m.sender + f }

    offers : offer_in g m i ≡ Some made
    unfolding offer_of
    offers = simp (lt-ltb 0 (g.words f) has, le-leb 1 n some, le-leb n g.most low)

    inside : place < length r.costs
    inside = place_within g.most m.destination n (length r.costs) some low wide

    leader_place : leader_at g m place ≡ f
    leader_place = ap (leader g m) (place_mod g.most m.destination n some low) ∙ leads g m i z within bounded has some low

    not_yet : takes_below g m i r.costs place ≡ false
    unfolding takes_below
    not_yet = simp (leader_place, le-ltb (turn_of_function g.p f) i (omega (arith, function_turn g m i z within bounded)), and-false)

    still : get_or (rows_below g m i r).costs place 0 ≡ get_or r.costs place 0
    unfolding rows_below cost_below
    still = get_or_tabulate (length r.costs) (cost_below g m i r) place 0 inside ∙ simp not_yet

    still_waiting : get_or (rows_below g m i r).waiting place 0 ≡ get_or r.waiting place 0
    unfolding rows_below waiting_below
    still_waiting = get_or_tabulate (length r.costs) (waiting_below g m i r) place 0 inside ∙ simp not_yet

    -- the row takes the offer in the rows as they are just where it takes it in those of the start
    module _ (less : m.cost + m.link + (g.words f - 1) < get_or (rows_below g m i r).costs place 0) where
      takes_now : takes_below g m (i + 1) r.costs place ≡ true
      unfolding takes_below takes wins offer
      takes_now =
          let won : m.cost + m.link + (g.words f - 1) < get_or r.costs place 0 = omega (arith, still) in
          simp (
            leader_place,
            eq-eqb (place / g.most) m.destination (place_div g.most m.destination n some low),
            lt-ltb f 192 (function_low g m i z within bounded),
            lt-ltb (m.cost + m.link + (g.words f - 1)) (get_or r.costs place 0) won,
            lt-ltb (turn_of_function g.p f) (i + 1) (omega (arith, function_turn g m i z within bounded)),
          )

      rows_set : rows_with made g.neighbours (rows_below g m i r) ≡ rows_below g m (i + 1) r
      unfolding rows_below cost_below way_below waiting_below offer
      rows_set =
          rows_eq (rows_with made g.neighbours (rows_below g m i r))
          (rows_below g m (i + 1) r).costs (rows_below g m (i + 1) r).ways (rows_below g m (i + 1) r).waiting
          (ap (set (rows_below g m i r).costs place) (sym (simp (takes_now, leader_place)))
          ∙ set_tabulate 0 (length r.costs) (cost_below g m i r) (cost_below g m (i + 1) r) place inside (λ j b o. simp (elsewhere j o)))
          (ap (set (rows_below g m i r).ways place) (sym (simp (takes_now, leader_place)))
          ∙ set_tabulate 0 (length r.costs) (way_below g m i r) (way_below g m (i + 1) r) place inside (λ j b o. simp (elsewhere j o)))
          (ap (set (rows_below g m i r).waiting place) (sym (simp (takes_now, still_waiting)))
          ∙ set_tabulate 0 (length r.costs) (waiting_below g m i r) (waiting_below g m (i + 1) r) place inside (λ j b o. simp (elsewhere j o)))

      taken_one : taken_below g m i r + 1 ≡ taken_below g m (i + 1) r
      unfolding taken_below
      taken_one = sym
          (how_many_more (length r.costs) (takes_below g m i r.costs) (takes_below g m (i + 1) r.costs) place inside not_yet (λ j b o. elsewhere j o)
          ∙ ap (λ (t : Bool). how_many (length r.costs) (takes_below g m i r.costs) + one t) takes_now)

  -- ---- no offer wins: every row takes what it took
  left_alone : (0 < g.words f → 1 ≤ n → n ≤ g.most → get_or (rows_below g m i r).costs place 0 ≤ m.cost + m.link + (g.words f - 1)) → (j : ℕ)
      → takes_below g m i r.costs j ≡ takes_below g m (i + 1) r.costs j
  unfolding offer
  left_alone high j = same_takes g m i r.costs j (λ t e.
      let o = only g m i z within bounded (j % g.most + 1) t.led e in
      let found = leader_found g m (j % g.most + 1) t.led in
      let moves = (led g.p g.most (leader_at g m j) (j % g.most + 1) m.number found.makes).moves in
      let has = subst (λ (y : ℕ). 0 < g.words y) o.0 found.has in
      let some : 1 ≤ n = omega (arith, o.1, moves.number) in
      let low : n ≤ g.most = omega (arith, o.1, moves.within_most) in
      let less : m.cost + m.link + (g.words f - 1) < get_or r.costs place 0 =
      subst (λ (x : ℕ). m.cost + m.link + (g.words f - 1) < get_or r.costs x 0) (place_only g.most m.destination n j t.there o.1)
      (subst (λ (y : ℕ). m.cost + m.link + (g.words y - 1) < get_or r.costs j 0) o.0 t.less) in
      omega (arith, still has some low, high has some low))

  abbrev Idle : Type 0
  Idle = (rows_below g m i r ≡ rows_below g m (i + 1) r) × (taken_below g m i r ≡ taken_below g m (i + 1) r)

  -- where there is none, and where it is not below the row's cost
  pub idle_none : None ≡ offer_in g m i → Idle
  idle_none e =
      let never : 0 < g.words f → 1 ≤ n → n ≤ g.most → get_or (rows_below g m i r).costs place 0 ≤ m.cost + m.link + (g.words f - 1) =
      λ has some low. absurd (let off = e ∙ offers has some low in let o : ◌≡◌ {A = ℕ} 0 1 = cc in omega arith) in
      (rows_same g m i r (left_alone never), taken_same g m i r (left_alone never))

  pub idle : (o : Offer) → Some o ≡ offer_in g m i → get_or (rows_below g m i r).costs o.place 0 ≤ o.cost → Idle
  idle o e high =
      let q = real g m i o e in
      let kept = subst (λ (x : Offer). get_or (rows_below g m i r).costs x.place 0 ≤ x.cost) q.is high in
      (rows_same g m i r (left_alone (λ has some low. kept)), taken_same g m i r (left_alone (λ has some low. kept)))

  -- ---- the offer wins, and its row takes it
  abbrev Taken : Offer → Type 0
  Taken o = (rows_with o g.neighbours (rows_below g m i r) ≡ rows_below g m (i + 1) r) × (taken_below g m i r + 1 ≡ taken_below g m (i + 1) r)

  pub takes_it : (o : Offer) → Some o ≡ offer_in g m i → o.cost < get_or (rows_below g m i r).costs o.place 0 → Taken o
  takes_it o e less =
      let q = real g m i o e in
      let won = subst (λ (x : Offer). x.cost < get_or (rows_below g m i r).costs x.place 0) q.is less in
      subst Taken (sym q.is) (rows_set q.has q.some q.low won, taken_one q.has q.some q.low won)
