-- `step::receive` meets its contract: `hear` hears with the receiver's part.
use Prim.Native.Nat.{◌*◌}
use Rattle.hear.specs.Handed.{gateway_seen, message_seen}
use Rattle.hear.specs.Answers as hearing
use Rattle.table.specs.Table.{table_of}
use Rattle.step.proofs.Tests.{length_of}
use Rattle.step.proofs.Hearing.{receives}
use Rattle.step.proofs.receive.Goals as goal

pub returns : goal.returns
returns c =
    let a = c.args in
    let h = c.hear in
    receives a.rows_each a.receiver (gateway_seen a.gateway) (message_seen a.message) (table_of a.cost.now a.way.now a.waiting.now) _
    (length_of (a.receiver * a.rows_each) a.rows_each) h.result (hearing.rows_of h.new.costs h.new.ways h.new.waiting) h.ensures
