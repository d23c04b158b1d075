use Prim.Native.Nat.{◌+◌}
use mathlib.Core.Path.{◌≡◌}
use Rattle.words.specs.Words.{ones_in}
use Rattle.fresh.specs.Filling.{costs_below, waits_below}
use Rattle.fresh.proofs.homes.node_homes.Given as goal

abbrev pub invariant-loop-x : goal.invariant-loop-x
invariant-loop-x l =
    (l.cost ≡ costs_below l.net.n l.net.p l.stacks l.net.functions.now (l.first + l.x))
    × (l.waiting ≡ waits_below l.net.n l.net.p l.stacks l.net.functions.now l.net.links.now (l.first + l.x)) × (l.messages ≡ ones_in l.waiting)
