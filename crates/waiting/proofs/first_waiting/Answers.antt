-- `waiting::first_waiting` meets its contract: a law for each thing that the search may find.
use mathlib.Core.Path.{sym, ◌∙◌}
use native.Mathlib.Nat.{mod-lt}
use native.Mathlib.Omega.{arith}
use Rattle.std.proofs.Common.{rules, ◌≡◌, Err}
use Rattle.network.specs.Handed.{network}
use Rattle.table.specs.Handed.{table_seen}
use Rattle.table.proofs.Begins.{Ready, Divides, is_ready, divides, rows_few, rows_at_hand}
use Rattle.waiting.proofs.Found.{refuses, first_message, first_quiet}
use Rattle.waiting.proofs.first_waiting.Goals as goal
use Rattle.waiting.proofs.first_waiting.Goals.{In_ok-stacks}

prepared : (c : In_ok-stacks) → Ready (network c.args.net.now) (table_seen c.args.table.now) c.in_ok-stacks.stacks
prepared c = is_ready _ _ _ (sym c.in_ok-stacks.ensures)

divisors : (c : In_ok-stacks) → Divides (network c.args.net.now) c.in_ok-stacks.stacks
divisors c = divides _ _ _ (prepared c)

pub returns-in_err-stacks : goal.returns-in_err-stacks
returns-in_err-stacks c =
    let a = c.args in
    let same : c.from_residual.result ≡ Err c.in_err-stacks.field-0.0 = search rules in
    same ∙ refuses (network a.net.now) (table_seen a.table.now) _ c.in_err-stacks.field-0.0 c.in_err-stacks.ensures

pub overflow_mul-net : goal.overflow_mul-net
overflow_mul-net c = omega (arith, divisors (goal.at.overflow_mul-net c).In_ok-stacks)

pub search-requires : goal.search-requires
search-requires c =
    let r = prepared (goal.at.search-requires c).In_ok-stacks in
    (rows_at_hand _ _ _ r, (rows_few _ _ _ r).0)

pub returns-in_default : goal.returns-in_default
returns-in_default c = first_quiet _ _ _ (prepared (goal.at.returns-in_default c).In_ok-stacks) c.in_default.ensures

pub nonzero_div-pair : goal.nonzero_div-pair
nonzero_div-pair c = (divisors (goal.at.nonzero_div-pair c).In_ok-stacks).some

pub nonzero_div-result : goal.nonzero_div-result
nonzero_div-result c = (divisors (goal.at.nonzero_div-result c).In_ok-stacks).nodes

pub nonzero_rem-result : goal.nonzero_rem-result
nonzero_rem-result c = (divisors (goal.at.nonzero_rem-result c).In_ok-stacks).nodes

pub nonzero_rem-result-2 : goal.nonzero_rem-result-2
nonzero_rem-result-2 c = (divisors (goal.at.nonzero_rem-result-2 c).In_ok-stacks).some

pub overflow_add-result : goal.overflow_add-result
overflow_add-result c =
    let d = divisors (goal.at.overflow_add-result c).In_ok-stacks in
    omega (arith, mod-lt c.in-Some.found.word d.some, d)

pub returns : goal.returns
returns c =
    first_message _ _ _ (prepared (goal.at.returns c).In_ok-stacks) c.in-Some.found.word c.in-Some.found.bit c.in-Some.ensures
