-- `table_exports::first_waiting` meets its contract: what is found fits.
use mathlib.Core.Path.{sym, subst, ◌∙◌}
use Rattle.table_exports.specs.Ranges.{FirstFits}
use Rattle.table_exports.proofs.Answered.{first_fits}
use Rattle.table_exports.proofs.first_waiting.Goals as goal

pub map-requires : goal.map-requires
map-requires c = λ x e. subst FirstFits (sym c.first_waiting.ensures ∙ e) (first_fits _ _)
