-- `functions::applied` meets its contract: `moved`, told how many stacks there are.
use mathlib.Core.Path.{sym, ◌∙◌}
use Rattle.functions.proofs.Moves.{applied_counted}
use Rattle.functions.proofs.applied.Goals as goal

pub returns : goal.returns
returns c =
    let a = c.args in
    c.moved.ensures ∙ applied_counted a.p a.h a.f a.number c.in_ok-stack_count.field-0 (sym c.in_ok-stack_count.ensures)
