-- `forward::row::row_answer` meets its contract: a law of proofs/Looks.antt for each test of what the way names.
use Prim.Native.Nat.{◌%◌}
use native.Mathlib.Omega.{arith}
use mathlib.Core.Path.{sym, ap, ◌∙◌}
use Rattle.std.specs.Prelude.{Ok}
use Rattle.functions.specs.Answers.{moved_of, number_after}
use Rattle.network.specs.Handed.{network}
use Rattle.forward.proofs.Looks.{Costed, no_link, no_function, forwards}
use Rattle.forward.proofs.row.row_answer.Goals as goal
use Rattle.forward.proofs.row.row_answer.Goals.{Else-paid-gt2147303427}

-- the row's cost passed its tests
costed : (c : Else-paid-gt2147303427) → Costed c.args.paid
costed c = record { row = c.if-paid-eq4294967295.false; some = c.if-paid-eq0.false; low = omega arith }

pub returns-then-link-eq0 : goal.returns-then-link-eq0
returns-then-link-eq0 c =
    let a = c.args in
    no_link (network a.net.now) a.node a.paid a.named (number_after (moved_of a.net.now.p a.stacks (a.named % 256) a.number))
    (costed (goal.at.returns-then-link-eq0 c).Else-paid-gt2147303427) c.link.ensures c.if-link-eq0.true

pub returns-then-word-eq0 : goal.returns-then-word-eq0
returns-then-word-eq0 c =
    let a = c.args in
    no_function (network a.net.now) a.node a.paid a.named (number_after (moved_of a.net.now.p a.stacks (a.named % 256) a.number))
    (costed (goal.at.returns-then-word-eq0 c).Else-paid-gt2147303427) c.link.ensures c.if-link-eq0.false c.word.ensures c.if-word-eq0.true

pub returns : goal.returns
returns c =
    let a = c.args in
    forwards (network a.net.now) a.stacks a.node a.number a.paid a.named (costed (goal.at.returns c).Else-paid-gt2147303427)
    c.link.ensures c.if-link-eq0.false c.word.ensures c.if-word-eq0.false c.in-Ok-Some.made
    (sym c.moved.ensures ∙ c.in-Ok-Some.is ∙ ap Ok c.in-Ok-Some.field-0-is)
