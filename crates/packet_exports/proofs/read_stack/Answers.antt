-- `packet_exports::read_stack` meets its contract.
use native.Mathlib.Omega.{arith}
use mathlib.Core.Path.{ap, ◌∙◌}
use Rattle.packing.specs.Packing.{pack_refused}
use Rattle.packet_exports.proofs.Fours.{not_read}
use Rattle.packet_exports.proofs.read_stack.Goals as goal

pub returns-then-room-lt4 : goal.returns-then-room-lt4
returns-then-room-lt4 c =
    let a = c.args in
    not_read a.answer.now a.h a.packet.now a.out.now c.packed_refused.result (omega arith) (c.packed_refused.ensures ∙ ap pack_refused c.from.ensures)
