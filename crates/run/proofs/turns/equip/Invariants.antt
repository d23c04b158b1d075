use mathlib.Core.Path.{◌≡◌}
use Rattle.network.specs.Handed.{network}
use Rattle.run.proofs.Gateways.{first_gateways}
use Rattle.run.proofs.turns.equip.Given as goal

abbrev pub invariant-loop-node : goal.invariant-loop-node
invariant-loop-node l = l.gateways ≡ first_gateways (network l.net) l.stacks l.node
