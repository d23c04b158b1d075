-- `deliver_exports::run` meets its contract.
use native.Mathlib.Omega.{arith}
use mathlib.Core.Path.{ap, ◌∙◌}
use Rattle.std.proofs.Common.{rules, ◌≡◌}
use Rattle.refusal.specs.Numbers.{number_or_none}
use Rattle.network.specs.Handed.{network}
use Rattle.table.specs.Handed.{table_held}
use Rattle.packing.specs.Packing.{pack_refused, pack_end}
use Rattle.deliver_exports.proofs.Running.{no_room, has_run}
use Rattle.deliver_exports.proofs.run.Goals as goal

pub returns-then-answer-lt2 : goal.returns-then-answer-lt2
returns-then-answer-lt2 c =
    let a = c.args in (
      no_room (network a.net.now) a.limit (table_held a.table.now) a.answer.now c.packed_refused.result (omega arith)
          (c.packed_refused.ensures ∙ ap pack_refused c.from.ensures),
      search rules,
    )

pub returns : goal.returns
returns c =
    let a = c.args in
    let told : c.map_or.result ≡ number_or_none c.run-ran.result.refused = search rules in (
      has_run (network a.net.now) a.limit (table_held a.table.now) a.answer.now c.packed_end.result _ c.run-ran.result _ _ (search rules) (search rules)
          (omega arith) c.run-ran.ensures.0 (c.packed_end.ensures ∙ ap pack_end told),
      search rules,
    )
