-- How far the loop of `hear` has come, over plain variables: where it starts, a turn that changes nothing, a turn that a row takes, where it ends.
use Prim.Native.Nat.{ℕ, ◌+◌, ◌*◌, ◌≤◌, ◌<◌}
use native.Mathlib.Nat.{mul-le-mul}
use native.Mathlib.Omega.{arith}
use mathlib.Core.Path.{◌≡◌, sym, ap, ◌∙◌, subst}
use lib.ListN.{length, get_or, set}
use mir.Syntax.{w64}
use mir.Val.{Fits}
use Rattle.bits.specs.Bits.{with_all}
use Rattle.hear.specs.Hearing.{Gateway, Message, Rows}
use Rattle.hear.specs.Answers.{rows_of, Hears}
use Rattle.hear.specs.Steps.{candidate_of, candidate_function, offer_of, Turn}
use Rattle.std.specs.Prelude.{Ok, Option, Some, None}
use Rattle.hear.specs.declared.Candidate.{Candidate}
use Rattle.hear.specs.declared.Offer.{Offer}
use Rattle.hear.proofs.Candidates.{Candid, candid}
use Rattle.hear.proofs.Below.{rows_below, taken_below, Came, rows_none, taken_none, rows_all, taken_all, rows_long}
use Rattle.hear.proofs.Step.{rows_with, offer_in, offer_inside, idle_none, idle, takes_it}
use Rattle.hear.proofs.Answers.{Passed, refused, passed, finished}

module _ (g : Gateway) (m : Message) (r : Rows) where
  -- the first i candidates have made their offers to the rows r, which are now s
  pub record Heeds (s : Rows) (i count : ℕ) : Type 0 where
    pub passes : Passed g m r
    pub unrefused : refused g m r ≡ 0
    pub few : count ≤ i
    pub came : Came g m i count r s

  pub starts : refused g m r ≡ 0 → Heeds r 0 0
  starts e =
      let h = passed g m r e in
      record {
        passes = h;
        unrefused = e;
        few = omega arith;
        came = record { rows = rows_none g m r h.lengths_good.ways_long h.lengths_good.waiting_long; counts = sym (taken_none g m r) };
      }

  module _ (s : Rows) (i count : ℕ) (h : Heeds s i count) where
    pub ends : i ≡ 2 * g.p + 1 → Hears g m r (Ok count) s
    ends e =
        let some = h.passes.numbers_good.some in
        finished g m r count s h.unrefused
        (h.came.counts ∙ ap (λ (x : ℕ). taken_below g m x r) e ∙ taken_all g m some r)
        (h.came.rows ∙ ap (λ (x : ℕ). rows_below g m x r) e ∙ rows_all g m some r)

    -- the costs stay as many as they were
    pub costs_long : length s.costs ≡ length r.costs
    costs_long = ap (λ (q : Rows). length q.costs) h.came.rows ∙ (rows_long g m i r).0

    pub its_turn : i < 2 * g.p + 1 → Turn g.p m.number i
    its_turn low =
        let n = h.passes.numbers_good in
        record { some = n.some; few = n.few; numbered = n.numbered; bounded = omega (arith, n.within, n.bounded); turn = omega arith }

-- the candidate in turn makes no offer
pub passes_by : (g : Gateway) (m : Message) (r s : Rows) (i count : ℕ) → Heeds g m r s i count → i < 2 * g.p + 1 → None ≡ offer_in g m i
    → Heeds g m r s (i + 1) count
passes_by g m r s i count h low e =
    let n = h.passes.numbers_good in
    let d = idle_none g m i (its_turn g m r s i count h low) n.within n.bounded r h.passes.lengths_good.wide e in
    record {
      passes = h.passes;
      unrefused = h.unrefused;
      few = omega (arith, h.few);
      came = record { rows = h.came.rows ∙ d.0; counts = h.came.counts ∙ d.1 };
    }

-- the candidate in turn makes the offer o
pub record Offers (g : Gateway) (m : Message) (r s : Rows) (i count : ℕ) (o : Offer) : Type 0 where
  pub heeds : Heeds g m r s i count
  pub low : i < 2 * g.p + 1
  pub is : Some o ≡ offer_in g m i

module _ {g : Gateway} {m : Message} {r s : Rows} {i count : ℕ} {o : Offer} (q : Offers g m r s i count o) where
  within : (long : ℕ) → (m.destination + 1) * g.most ≤ long → o.place < long
  within long wide = offer_inside g m i long o q.is wide

  -- the offer's place is one in each list
  near : o.place < 524288
  near =
      let n = q.heeds.passes.numbers_good in
      within 524288 (mul-le-mul {n₁ = m.destination + 1} {m₁ = g.most} {n₂ = 32} {m₂ = 16384} (omega (arith, n.known)) n.bounded)

  -- and its distance in bytes fits a word
  pub near_4 : Fits w64 (o.place * 4)
  near_4 = omega (arith, near)

  pub inside : o.place < length s.costs
  inside = within (length s.costs) (omega (arith, q.heeds.passes.lengths_good.wide, costs_long g m r s i count q.heeds))

  pub stays : get_or s.costs o.place 0 ≤ o.cost → Heeds g m r s (i + 1) count
  stays high =
      let h = q.heeds in
      let n = h.passes.numbers_good in
      let d = idle g m i (its_turn g m r s i count h q.low) n.within n.bounded r h.passes.lengths_good.wide o q.is
      (subst (λ (t : Rows). get_or t.costs o.place 0 ≤ o.cost) h.came.rows high) in
      record {
        passes = h.passes;
        unrefused = h.unrefused;
        few = omega (arith, h.few);
        came = record { rows = h.came.rows ∙ d.0; counts = h.came.counts ∙ d.1 };
      }

  pub gains : (w : ℕ) → w ≡ with_all (get_or s.waiting o.place 0) g.neighbours
      → o.cost < get_or s.costs o.place 0
      → Heeds g m r (record { costs = set s.costs o.place o.cost; ways = set s.ways o.place o.way; waiting = set s.waiting o.place w })
      (i + 1) (count + 1)
  gains w e less =
      let h = q.heeds in
      let n = h.passes.numbers_good in
      let won = subst (λ (t : Rows). o.cost < get_or t.costs o.place 0) h.came.rows less in
      let d = takes_it g m i (its_turn g m r s i count h q.low) n.within n.bounded r h.passes.lengths_good.wide o q.is won in
      record {
        passes = h.passes;
        unrefused = h.unrefused;
        few = omega (arith, h.few);
        came = record {
          rows = ap (λ (x : ℕ). rows_of (set s.costs o.place o.cost) (set s.ways o.place o.way) (set s.waiting o.place x)) e
              ∙ ap (rows_with o g.neighbours) h.came.rows ∙ d.0;
          counts = omega (arith, h.came.counts, d.1);
        };
      }

-- ---- the candidate and its offer, as the code has them
pub record Small (c : Candidate) : Type 0 where
  pub firsts : c.function.a < 8
  pub seconds : c.function.b < 8

pub small : (p number i : ℕ) (c : Candidate) → Turn p number i → c ≡ candidate_of p number i → Small c
small p number i c z is =
    let d = subst (Candid p number i) (sym is) (candid p number i z.some z.turn) in
    record { firsts = omega (arith, d.firsts, z.few); seconds = omega (arith, d.seconds, z.few) }

pub offered : (g : Gateway) (m : Message) (i w : ℕ) (c : Candidate) (o : Option Offer) → c ≡ candidate_of g.p m.number i → w ≡ g.words (candidate_function c)
    → o ≡ offer_of g.most m.sender m.destination m.cost m.link w c → o ≡ offer_in g m i
offered g m i w c o is word e =
    e ∙ ap (λ (x : ℕ). offer_of g.most m.sender m.destination m.cost m.link x c) word
    ∙ ap (λ (x : Candidate). offer_of g.most m.sender m.destination m.cost m.link (g.words (candidate_function x)) x) is
