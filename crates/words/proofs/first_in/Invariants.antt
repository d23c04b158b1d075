use mathlib.Core.Path.{◌≡◌}
use Rattle.words.specs.Words.{first_between}
use Rattle.words.proofs.first_in.Given as goal

abbrev pub invariant-loop-i : goal.invariant-loop-i
invariant-loop-i l = first_between l.i l.end l.words ≡ first_between l.from l.to l.words
