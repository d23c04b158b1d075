-- `words::skipped` meets its contract. The invariant: the search from i on has the answer of the search from the start.
use mathlib.Core.Path.{sym, ◌∙◌}
use native.Mathlib.Omega.{arith}
use Rattle.words.proofs.Search.{first_four}
use Rattle.words.proofs.skipped.Goals as goal

pub loop-i-preserved : goal.loop-i-preserved
loop-i-preserved c =
    let a = c.args in
    let turn = c.loop-i in
    sym (first_four a.words.now turn.i a.end (omega arith) (omega arith) c.if-words-i-ne0.false) ∙ turn.invariant
