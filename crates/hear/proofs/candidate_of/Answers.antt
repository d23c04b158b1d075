-- `hear::candidate_of` meets its contract: a law for each kind of candidate.
use native.Mathlib.Omega.{arith}
use Rattle.hear.proofs.Candidates.{converts_by, wraps_by, none_by, unwraps_by, below_number, above_number, past}
use Rattle.hear.proofs.candidate_of.Goals as goal

pub overflow_mul-result : goal.overflow_mul-result
overflow_mul-result c =
    omega (arith, c.requires, below_number c.args.p c.args.number c.args.rest c.requires.rests)

pub overflow_add-result : goal.overflow_add-result
overflow_add-result c =
    omega (arith, c.requires, below_number c.args.p c.args.number c.args.rest c.requires.rests)

pub overflow_add-result-then-i-p : goal.overflow_add-result-then-i-p
overflow_add-result-then-i-p c =
    omega (arith, c.requires, below_number c.args.p c.args.number c.args.rest c.requires.rests)

pub returns-then-i-p : goal.returns-then-i-p
returns-then-i-p c = converts_by _ _ _ _ _ c.requires c.if-i-p.true

pub overflow_sub-b-then-p-i : goal.overflow_sub-b-then-p-i
overflow_sub-b-then-p-i c = past _ _ c.if-p-i.true

pub overflow_mul-result-then-p-i : goal.overflow_mul-result-then-p-i
overflow_mul-result-then-p-i c =
    omega (arith, c.requires, above_number c.args.p c.args.number c.requires.turns.few)

pub overflow_add-result-then-p-i : goal.overflow_add-result-then-p-i
overflow_add-result-then-p-i c =
    omega (arith, c.requires, above_number c.args.p c.args.number c.requires.turns.few)

pub overflow_add-result-then-p-i-2 : goal.overflow_add-result-then-p-i-2
overflow_add-result-then-p-i-2 c =
    omega (arith, c.requires, above_number c.args.p c.args.number c.requires.turns.few)

pub returns-then-p-i : goal.returns-then-p-i
returns-then-p-i c = unwraps_by _ _ _ _ _ c.requires c.if-p-i.true

pub returns-then-rest-lt1 : goal.returns-then-rest-lt1
returns-then-rest-lt1 c = none_by _ _ _ _ _ c.requires c.if-i-p.false c.if-p-i.false c.if-rest-lt1.true

pub returns-else-rest-lt1 : goal.returns-else-rest-lt1
returns-else-rest-lt1 c = wraps_by _ _ _ _ _ c.requires c.if-i-p.false c.if-p-i.false
