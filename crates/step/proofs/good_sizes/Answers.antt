-- `step::good_sizes` meets its contract: its tests are those of `ok_rows`.
use mathlib.Core.Bool.{true, false}
use Rattle.step.proofs.Tests.{sizes_by, rows_fit}
use Rattle.step.proofs.good_sizes.Goals as goal

pub returns-then-not-p-n : goal.returns-then-not-p-n
returns-then-not-p-n c = let a = c.args in sizes_by a.n a.p a.stacks a.costs a.ways a.waits false c.if-not-p-n.true

pub returns : goal.returns
returns c = let a = c.args in sizes_by a.n a.p a.stacks a.costs a.ways a.waits true c.if-not-p-n.false

pub overflow_mul-rows_all : goal.overflow_mul-rows_all
overflow_mul-rows_all c = let a = c.args in (rows_fit a.n a.p a.stacks a.costs a.ways a.waits c.if-not-p-n.false).0

pub overflow_mul-rows_all-2 : goal.overflow_mul-rows_all-2
overflow_mul-rows_all-2 c = let a = c.args in (rows_fit a.n a.p a.stacks a.costs a.ways a.waits c.if-not-p-n.false).1
