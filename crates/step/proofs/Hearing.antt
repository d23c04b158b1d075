-- Where the tests hold: `hear` refuses nothing, and what it leaves is put back in the table.
use Prim.Native.Nat.{ℕ, ◌+◌, ◌*◌, ◌≤◌, ◌<◌}
use native.Mathlib.Nat.{mul-le-mul_right, suc-mul}
use native.Mathlib.Omega.{arith}
use mathlib.Core.Path.{◌≡◌, sym, ap, ◌∙◌}
use lib.ListN.{length, get_or, set, length-set}
use borrow.Author.Tests.{le-leb, lt-ltb, eq-eqb}
use borrow.Rule.Slice.PartMut.{mid_of, put_mid}
use Rattle.bits.specs.Bits.{without}
use Rattle.hear.specs.Hearing.{Gateway, Message, Rows}
use Rattle.hear.specs.Answers.{message_of, ok_hearing, rows_after, Hears}
use Rattle.hear.specs.Answers as hearing
use Rattle.table.specs.Table.{Table, table_of, ceiling, place_in, rows_in, with_rows_in, cleared_at, cleared_in, message_in}
use Rattle.std.specs.Prelude.{Result, Err}
use Rattle.refusal.specs.declared.Refusal.{Refusal}
use Rattle.refusal.proofs.Answers.{answered_err}
use Rattle.table.proofs.Rows.{part_long}
use Rattle.step.specs.Step.{refusal_in, table_after, Stepped}
use Rattle.step.specs.Steps.{told_of, Received}
use Rattle.step.proofs.Tells.{Passed}

hear_passes : (g : Gateway) (m : Message) (r : Rows) → 1 ≤ g.p → g.p ≤ 8 → g.most ≤ 16384 → m.sender < 32 → m.destination < 32 → 1 ≤ m.number
    → m.number ≤ g.most
    → (m.destination + 1) * g.most ≤ length r.costs → length r.ways ≡ length r.costs → length r.waiting ≡ length r.costs → m.cost ≤ ceiling
    → hearing.hear_refusal g m r ≡ 0
unfolding ok_hearing hearing.hear_refusal
hear_passes g m r a b c d e f h i j k l =
    simp (
      le-leb 1 g.p a,
      le-leb g.p 8 b,
      le-leb g.most 16384 c,
      lt-ltb m.sender 32 d,
      lt-ltb m.destination 32 e,
      le-leb 1 m.number f,
      le-leb m.number g.most h,
      le-leb ((m.destination + 1) * g.most) (length r.costs) i,
      eq-eqb (length r.ways) (length r.costs) j,
      eq-eqb (length r.waiting) (length r.costs) k,
      le-leb m.cost ceiling l,
    )

-- the receiver's rows are its part of the table, k rows long
pub receives : (each U : ℕ) (g : Gateway) (m : Message) (t : Table) (k : ℕ) → k ≡ each → (answer : Result ℕ Refusal) (after : Rows)
    → Hears g m (hearing.rows_of (mid_of (U * each) k t.cost) (mid_of (U * each) k t.way) (mid_of (U * each) k t.waiting)) answer after
    → Received each U g m t answer (table_of (put_mid (U * each) k t.cost after.costs) (put_mid (U * each) k t.way after.ways)
    (put_mid (U * each) k t.waiting after.waiting))
unfolding rows_in with_rows_in
receives each U g m t k long answer after h =
    let y : Hears g m (rows_in each U t) answer after = simp long at h in
    record { answers = y.answers; table = simp (long, y.costs, y.ways, y.waiting) }

module _ (n : ℕ) (g : Gateway) (link : ℕ) (t : Table) (Q U D N : ℕ) where
  -- what U hears, and its rows then
  abbrev message : Message
  message = message_in n g.most link t Q D N

  abbrev rows : Rows
  rows = rows_in (n * g.most) U (cleared_in n g.most t Q U D N)

  -- a refusal of the tests is the answer, and the table stays
  pub refuses : (r : Refusal) → Err r ≡ told_of n g.p g.most link t Q U D N → Stepped n g link t Q U D N (Err r) t
  unfolding table_after
  refuses r e =
      let off = answered_err (refusal_in n g.p g.most link t Q U D N) _ r e in
      record { answers = simp off.0 (ap Err off.1); table = simp off.0 }

  module _ (i c : ℕ) (x : Passed n g.p g.most link t Q U D N i c) where
    nothing_refused : hearing.hear_refusal g message rows ≡ 0
    unfolding rows_in cleared_at
    nothing_refused =
        let z = x.sized in
        let k = x.numbered in
        let here = place_in n g.most Q D N in
        let a = part_long n (n * g.most) t.cost z.costs_are U k.hears in
        let b = part_long n (n * g.most) t.way z.ways_are U k.hears in
        let w = part_long n (n * g.most) (set t.waiting here (without (get_or t.waiting here 0) U))
        (length-set t.waiting here (without (get_or t.waiting here 0) U) ∙ z.waits_are) U k.hears in
        hear_passes g message rows z.some z.few z.bounded (omega (arith, k.sends, z.nodes)) (omega (arith, k.known, z.nodes)) k.numbered k.within
        (omega (arith, a, mul-le-mul_right g.most k.known, suc-mul D g.most)) (b ∙ sym a) (w ∙ sym a) (omega (arith, x.cost_is, x.priced))

    -- what the receiver answers and leaves, with the sender's word without the bit
    pub delivers : (word : ℕ) (answer : Result ℕ Refusal) (after : Table) → word ≡ without (get_or t.waiting i 0) U
        → Received (n * g.most) U g (message_of Q D N c link) (table_of t.cost t.way (set t.waiting i word)) answer after
        → Stepped n g link t Q U D N answer after
    unfolding table_after cleared_at rows_after
    delivers word answer after bit h =
        let none = nothing_refused in
        let y : Received (n * g.most) U g message (cleared_in n g.most t Q U D N) answer after = simp (bit, x.place_is, x.cost_is) at h in
        record { answers = y.answers ∙ simp (none, x.nothing); table = y.table ∙ simp (none, x.nothing) }
