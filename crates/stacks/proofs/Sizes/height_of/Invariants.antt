use Prim.Native.Nat.{◌-◌, ◌+◌}
use mathlib.Core.Path.{◌≡◌}
use Rattle.stacks.specs.Stacks.{height}
use Rattle.stacks.proofs.Sizes.height_of.Given as goal

abbrev pub invariant-loop-i : goal.invariant-loop-i
invariant-loop-i l = l.i + height l.self.p (l.self.h - l.i) l.n ≡ height l.self.p l.self.h l.number
