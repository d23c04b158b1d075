-- `table::ready::ready` meets its contract: a law for each test.
use mathlib.Core.Path.{sym, ◌∙◌}
use Rattle.std.proofs.Common.{rules, ◌≡◌, Err}
use native.Mathlib.Omega.{arith}
use Rattle.network.specs.Handed.{network}
use Rattle.table.proofs.Begins.{not_long, all_long, not_ready, small}
use Rattle.table.proofs.ready.ready.Goals as goal

pub returns-in_err-stacks : goal.returns-in_err-stacks
returns-in_err-stacks c =
    let a = c.args in
    let same : c.from_residual.result ≡ Err c.in_err-stacks.field-0.0 = search rules in
    same ∙ not_ready (network a.net.now) a.costs a.ways a.waits c.in_err-stacks.field-0.0 (sym c.in_err-stacks.ensures)

pub overflow_mul-rows : goal.overflow_mul-rows
overflow_mul-rows c =
    let a = c.args in
    let found = sym c.in_ok-stacks.ensures in
    omega (arith, small (network a.net.now) c.in_ok-stacks.stacks found)

pub overflow_mul-rows-2 : goal.overflow_mul-rows-2
overflow_mul-rows-2 c =
    let a = c.args in
    let found = sym c.in_ok-stacks.ensures in
    omega (arith, small (network a.net.now) c.in_ok-stacks.stacks found)

pub returns-then-costs-rows : goal.returns-then-costs-rows
returns-then-costs-rows c =
    let a = c.args in
    let found = sym c.in_ok-stacks.ensures in
    all_long (network a.net.now) a.costs a.ways a.waits c.in_ok-stacks.stacks found c.if-costs-rows.true

pub returns : goal.returns
returns c =
    let a = c.args in
    let found = sym c.in_ok-stacks.ensures in
    not_long (network a.net.now) a.costs a.ways a.waits c.in_ok-stacks.stacks found c.if-costs-rows.false
