use mathlib.Core.Path.{◌≡◌}
use Rattle.stacks.specs.Stacks.{count}
use Rattle.stacks.proofs.Sizes.total.Given as goal

abbrev pub invariant-loop : goal.invariant-loop
invariant-loop l = l.n ≡ count l.self.p l.counter
