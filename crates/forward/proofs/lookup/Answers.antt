-- `forward::lookup` meets its contract.
use Rattle.std.proofs.Common.{rules, ◌≡◌, Err}
use Rattle.network.specs.Handed.{network}
use Rattle.table.specs.Handed.{table_seen}
use Rattle.forward.proofs.Looks.{looked, refused}
use Rattle.forward.proofs.lookup.Goals as goal

pub returns-in_err-packet : goal.returns-in_err-packet
returns-in_err-packet c =
    let a = c.args in
    let same : c.from_residual.result ≡ Err c.in_err-packet.field-0.0 = search rules in
    rw same (refused (network a.net.now) (table_seen a.table.now) a.node a.destination a.stack.now c.in_err-packet.field-0.0 c.in_err-packet.ensures)

pub returns : goal.returns
returns c =
    let a = c.args in
    looked (network a.net.now) (table_seen a.table.now) a.node a.destination a.stack.now c.in_ok-packet.packet c.in_ok-packet.ensures c.look.ensures
