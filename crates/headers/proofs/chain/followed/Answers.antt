-- `headers::chain::followed` meets its contract: a law of proofs/Following.antt for each return, and for a turn of the loop.
use native.Mathlib.Omega.{arith}
use mathlib.Core.List.{[]}
use mathlib.Core.Path.{◌≡◌, refl, ap, ◌∙◌}
use lib.ListN.{length}
use Rattle.std.specs.Prelude.{Err}
use Rattle.std.proofs.Common.{rules}
use Rattle.headers.specs.Chains.{follow}
use Rattle.headers.specs.Steps.{chained_of}
use Rattle.headers.proofs.Following.{starts, at_end, one_or_two, sum_few, refuses, too_high, ends, goes_on}
use Rattle.headers.proofs.chain.followed.Goals as goal

pub loop-k-init : goal.loop-k-init
loop-k-init c = starts c.args.packet.now c.args.h

pub returns-in_err-header : goal.returns-in_err-header
returns-in_err-header c =
    let a = c.args in
    let is : Err c.in_err-header.field-0.0 ≡ chained_of (follow a.packet.now a.h 0 0 0 (length a.packet.now) []) =
    refuses c.loop-k.invariant c.in_err-header.ensures in
    search rules

pub overflow_add-number : goal.overflow_add-number
overflow_add-number c = omega (arith, one_or_two c.loop-k.invariant c.in_ok-header.ensures)

pub overflow_mul-number : goal.overflow_mul-number
overflow_mul-number c = omega (arith, sum_few c.loop-k.invariant c.in_ok-header.ensures c.requires)

pub overflow_add-number-in-loop-k : goal.overflow_add-number-in-loop-k
overflow_add-number-in-loop-k c = omega (arith, sum_few c.loop-k.invariant c.in_ok-header.ensures c.requires)

pub returns-then-header-eq0 : goal.returns-then-header-eq0
returns-then-header-eq0 c = ends c.loop-k.invariant c.in_ok-header.ensures c.loop-k-test.true c.if-header-eq0.true

pub loop-k-preserved : goal.loop-k-preserved
loop-k-preserved c = goes_on c.loop-k.invariant c.in_ok-header.ensures c.loop-k-test.true c.if-header-eq0.false

pub returns-in_err-judged : goal.returns-in_err-judged
returns-in_err-judged c =
    let a = c.args in
    let is : Err c.in_err-judged.field-0.0 ≡ chained_of (follow a.packet.now a.h 0 0 0 (length a.packet.now) []) =
    refuses (at_end c.loop-k.invariant (omega arith)) c.in_err-judged.ensures in
    search rules

pub returns : goal.returns
returns c = ap Err c.at.ensures ∙ too_high (at_end c.loop-k.invariant (omega arith)) c.in_ok-judged.ensures refl
