-- `packet_exports::carry` meets its contract.
use native.Mathlib.Omega.{arith}
use mathlib.Core.Path.{ap, ◌∙◌}
use Rattle.packing.specs.Packing.{pack_refused}
use Rattle.network.specs.Handed.{network}
use Rattle.table.specs.Handed.{table_seen}
use Rattle.carry.specs.Carry.{carry_of}
use Rattle.packet_exports.specs.Four.{carry_four}
use Rattle.packet_exports.proofs.Fours.{no_room}
use Rattle.packet_exports.proofs.carry.Goals as goal

pub returns-then-answer-lt4 : goal.returns-then-answer-lt4
returns-then-answer-lt4 c =
    let a = c.args in
    no_room a.answer.now (carry_four (carry_of (network a.net.now) (table_seen a.table.now) a.node a.destination a.stack.now a.limit))
    c.packed_refused.result (omega arith) (c.packed_refused.ensures ∙ ap pack_refused c.from.ensures)
