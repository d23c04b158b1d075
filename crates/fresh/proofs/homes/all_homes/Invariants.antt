use Prim.Native.Nat.{◌+◌, ◌*◌}
use mathlib.Core.Path.{◌≡◌}
use Rattle.words.specs.Words.{ones_in}
use Rattle.fresh.specs.Filling.{costs_below, waits_below}
use Rattle.fresh.proofs.homes.all_homes.Given as goal

abbrev pub invariant-loop-node : goal.invariant-loop-node
invariant-loop-node l =
    (l.cost ≡ costs_below l.net.n l.net.p l.stacks l.net.functions.now ((l.node * l.net.n + l.node) * l.stacks))
    × (l.waiting ≡ waits_below l.net.n l.net.p l.stacks l.net.functions.now l.net.links.now ((l.node * l.net.n + l.node) * l.stacks))
    × (l.messages ≡ ones_in l.waiting)
