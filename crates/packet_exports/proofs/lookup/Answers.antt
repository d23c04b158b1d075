-- `packet_exports::lookup` meets its contract.
use mathlib.Core.Path.{ap, sym, subst, ◌∙◌}
use Rattle.packet_exports.specs.Packing.{pack_look}
use Rattle.packet_exports.specs.Ranges.{LookFits}
use Rattle.packet_exports.proofs.Looked.{look_fits}
use Rattle.packet_exports.proofs.lookup.Goals as goal

pub packed_look-requires : goal.packed_look-requires
packed_look-requires c = subst LookFits (sym c.lookup.ensures) (look_fits _ _ _ _ _)

pub returns : goal.returns
returns c = c.packed_look.ensures ∙ ap pack_look c.lookup.ensures
