use Prim.Native.Nat.{◌≤◌}
use mathlib.Core.Path.{◌≡◌}
use lib.ListN.{drop}
use Rattle.stacks.specs.Stacks.{count}
use Rattle.stacks.specs.Steps.{scan}
use Rattle.stacks.proofs.Sizes.scanned.Given as goal

abbrev pub invariant-loop-q : goal.invariant-loop-q
invariant-loop-q l = (scan l.self.p l.n (drop l.q-index l.stack) ≡ scan l.self.p 0 l.stack) × (l.n ≤ count l.self.p l.q-index)
