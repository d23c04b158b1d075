use Prim.Native.Nat.{◌-◌}
use Rattle.network.specs.Handed.{network}
use Rattle.table.specs.Handed.{table_seen}
use Rattle.carry.proofs.Travels.{Going}
use Rattle.carry.proofs.journey.travel.Given as goal

abbrev pub invariant-loop-hop : goal.invariant-loop-hop
invariant-loop-hop l = Going (network l.net) (table_seen l.table) l.destination l.limit l.from l.first l.hops l.spent l.node l.number

abbrev pub decreases-loop-hop : goal.decreases-loop-hop
decreases-loop-hop l = l.limit - l.hops
