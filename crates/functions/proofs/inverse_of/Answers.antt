-- `functions::inverse_of` meets its contract.
use mathlib.Core.Path.{ap, ◌∙◌}
use mathlib.Core.Bool.{◌&&◌}
use lib.Dec.{leb}
use Rattle.std.specs.Prelude.{Ok}
use Rattle.refusal.specs.declared.Refusal.{Refusal}
use Rattle.refusal.proofs.Answers.{tested_ok}
use Rattle.functions.specs.Functions.{ok_function}
use Rattle.functions.specs.Parts.{function_of, inverse_by}
use Rattle.functions.proofs.Parts.{inverse_parts}
use Rattle.functions.proofs.Tests.{ranged}
use Rattle.functions.proofs.inverse_of.Goals as goal

pub returns : goal.returns
returns c =
    let a = c.args in
    let on = tested_ok (leb 1 a.p && (leb a.p 8 && ok_function a.p a.f))
    (function_of a.f) c.in_ok-function_on.field-0 Refusal.Range c.in_ok-function_on.ensures in
    simp on.0 (ap Ok (c.inverse.ensures ∙ ap inverse_by on.1 ∙ inverse_parts a.f (ranged a.p a.f on.0).parts.kind))
