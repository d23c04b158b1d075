-- `run::turns::equip` meets its contract: the gateways before the node are those of the nodes.
use mathlib.Core.Path.{◌∙◌}
use native.Mathlib.Omega.{arith}
use Rattle.network.specs.Handed.{network}
use Rattle.run.proofs.Gateways.{gateways_none, gateways_more, gateways_all}
use Rattle.run.proofs.turns.equip.Goals as goal

pub loop-node-init : goal.loop-node-init
loop-node-init c = c.requires.empty ∙ gateways_none (network c.args.net.now) c.args.stacks

pub loop-node-preserved : goal.loop-node-preserved
loop-node-preserved c =
    let l = c.loop-node in
    let net = network c.args.net.now in
    rw (l.invariant, c.gateway_at.ensures) (gateways_more net c.args.stacks l.node (omega arith))

pub returns : goal.returns
returns c = c.loop-node.invariant ∙ gateways_all (network c.args.net.now) c.args.stacks c.loop-node.node (omega arith)
