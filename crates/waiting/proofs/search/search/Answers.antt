-- `waiting::search::search` meets its contract. The invariants: nothing is found yet, and the search from here on has the answer of the whole
-- search; in a word that is not 0, no bit below `bit` is set.
use mathlib.Core.Path.{refl, sym, ◌∙◌}
use native.Mathlib.Omega.{arith}
use Rattle.bits.proofs.Laws.{no_bit}
use Rattle.table.proofs.Walk.{AtRow, at_start, row_inside, row_passed, bit_found, all_passed}
use Rattle.waiting.proofs.search.search.Goals as goal
use Rattle.waiting.proofs.search.search.Goals.{In-loop-row}

-- the laws' premises in a turn of the loop over rows
at-this-row : (c : In-loop-row)
    → AtRow c.args.waiting.now c.args.rows c.table.node c.loop-row.row
at-this-row c =
    record {
      inside = row_inside c.args.waiting.now c.args.nodes _ _ _ c.requires.0 c.table-test.true c.loop-row-test.true;
      ahead = c.loop-row.invariant.1;
    }

pub table-init : goal.table-init
table-init c = (refl, at_start _ _)

pub loop-row-preserved-then-word-eq0 : goal.loop-row-preserved-then-word-eq0
loop-row-preserved-then-word-eq0 c =
    (c.loop-row.invariant.0, row_passed (at-this-row (goal.at.loop-row-preserved-then-word-eq0 c).In-loop-row) c.if-word-eq0.true)

pub loop-row-preserved : goal.loop-row-preserved
loop-row-preserved c =
    absurd (c.if-word-eq0.false (no_bit _ (λ k l. c.loop-bit.invariant.1 k (omega arith)) (c.type_inv.waiting _).fits))

pub returns-after-table : goal.returns-after-table
returns-after-table c =
    let t = c.table in
    t.invariant.0 ∙ all_passed _ c.args.nodes _ t.node c.requires.0 t.auto.node-end c.table-test.false t.invariant.1

pub returns-then-has : goal.returns-then-has
returns-then-has c =
    let fits = (c.type_inv.waiting _).fits in
    let bits = c.loop-bit in
    bit_found (at-this-row (goal.at.returns-then-has c).In-loop-row) bits.bit fits c.if-word-eq0.false bits.invariant.1 (sym c.has.ensures ∙ c.if-has.true)
