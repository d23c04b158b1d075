-- `packet_exports::four::four_written` meets its contract.
use mathlib.Core.Path.{ap, ◌∙◌}
use Rattle.std.proofs.Common.{rules, ◌≡◌}
use Rattle.refusal.specs.Numbers.{number_or_none}
use Rattle.packing.specs.Packing.{pack_end}
use Rattle.packet_exports.proofs.Fours.{has_written}
use Rattle.packet_exports.proofs.four.four_written.Goals as goal

pub returns : goal.returns
returns c =
    let told : c.map_or.result ≡ number_or_none c.args.four.refused = search rules in
    has_written c.args.answer.now c.args.four c.packed_end.result c.requires (c.packed_end.ensures ∙ ap pack_end told)
