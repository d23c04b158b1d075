use mathlib.Core.Path.{◌≡◌}
use lib.ListN.{get_or}
use Rattle.run.specs.Flags.{Flagged}
use Rattle.run.proofs.search.search_node.Given as goal

abbrev pub invariant-loop-left : goal.invariant-loop-left
invariant-loop-left l = (l.left ≡ get_or l.flags l.node 0) × Flagged l.n l.stacks l.flags l.waiting

abbrev pub decreases-loop-left : goal.decreases-loop-left
decreases-loop-left l = l.left
