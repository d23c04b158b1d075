use mathlib.Core.Path.{◌≡◌}
use mathlib.Core.List.{List, ◌++◌}
use Prim.Native.Nat.{ℕ}
use lib.ListN.{take, drop}
use Rattle.stacks.specs.Stacks.{height, stack_under, stack_of}
use Rattle.stacks.proofs.Sizes.filled.Given as goal

abbrev pub invariant-loop-i : goal.invariant-loop-i
invariant-loop-i l =
    (height l.self.p l.i l.n ≡ l.i)
    × ((acc : List ℕ) × (stack_under l.self.p l.i l.n acc ≡ stack_of l.self.p l.self.h l.number) × (l.out ≡ take l.i l.initial.out ++
    (acc ++ drop l.high l.initial.out)))
