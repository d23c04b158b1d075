use Prim.Native.Nat.{◌*◌}
use Rattle.run.specs.Flags.{Flagged}
use Rattle.table.proofs.Firsts.{Ahead}
use Rattle.run.proofs.search.search_flagged.Given as goal

abbrev pub invariant-loop-node : goal.invariant-loop-node
invariant-loop-node l = Ahead l.table.waiting.now (l.node * (l.n * l.stacks)) × Flagged l.n l.stacks l.flags l.table.waiting.now
