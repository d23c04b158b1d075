-- `packet::begin` meets its contract: a law of proofs/Packets.antt for each return.
use Rattle.std.proofs.Common.{rules, ◌≡◌, Err}
use Rattle.network.specs.Handed.{network}
use Rattle.table.specs.Handed.{table_seen}
use Rattle.packet.proofs.Packets.{no_node, no_destination, no_stack, good_packet}
use Rattle.packet.proofs.begin.Goals as goal

pub returns-then-net-node : goal.returns-then-net-node
returns-then-net-node c =
    let a = c.args in
    no_node (network a.net.now) (table_seen a.table.now) a.node a.destination a.stack.now c.in_ok-stacks.stacks c.in_ok-stacks.ensures c.if-net-node.true

pub returns-then-net-destination : goal.returns-then-net-destination
returns-then-net-destination c =
    let a = c.args in
    no_destination (network a.net.now) (table_seen a.table.now) a.node a.destination a.stack.now c.in_ok-stacks.stacks c.in_ok-stacks.ensures
    c.if-net-node.false c.if-net-destination.true

pub returns-in_err-number : goal.returns-in_err-number
returns-in_err-number c =
    let a = c.args in
    let same : c.from_residual-in_err-number.result ≡ Err c.in_err-number.field-0.0 = search rules in
    rw same (no_stack (network a.net.now) (table_seen a.table.now) a.node a.destination a.stack.now c.in_ok-stacks.stacks c.in_ok-stacks.ensures
    c.in_err-number.field-0.0 c.if-net-node.false c.if-net-destination.false c.in_err-number.ensures)

pub returns : goal.returns
returns c =
    let a = c.args in
    good_packet (network a.net.now) (table_seen a.table.now) a.node a.destination a.stack.now c.in_ok-stacks.stacks c.in_ok-stacks.ensures
    c.in_ok-number.number c.if-net-node.false c.if-net-destination.false c.in_ok-number.ensures
