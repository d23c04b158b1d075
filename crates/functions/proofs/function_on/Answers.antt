-- `functions::function_on` meets its contract: past the conversion it makes the tests that are left.
use mathlib.Core.Path.{refl, sym, ap, ◌∙◌}
use mathlib.Core.Bool.{◌&&◌}
use lib.Dec.{leb, ltb}
use Rattle.std.proofs.Common.{rules, ◌≡◌, Err}
use Rattle.refusal.specs.declared.Refusal.{Refusal}
use Rattle.refusal.proofs.Answers.{tested_ok, tested_err}
use Rattle.functions.specs.Parts.{function_of}
use Rattle.functions.specs.declared.Function.{Function}
use Rattle.functions.proofs.Tests.{in_range, past_all}
use Rattle.functions.proofs.function_on.Goals as goal

pub returns-in_err-function : goal.returns-in_err-function
returns-in_err-function c =
    let a = c.args in
    let off = tested_err (ltb a.f 192) (function_of a.f) Refusal.Range _ c.in_err-function.ensures in
    let same : c.from_residual.result ≡ Err c.in_err-function.field-0.0 = search rules in
    rw (same, off.1, past_all a.p a.f off.0) refl

pub returns-then-p-function : goal.returns-then-p-function
returns-then-p-function c =
    let a = c.args in
    let on = tested_ok (ltb a.f 192) (function_of a.f) c.in_ok-function.function Refusal.Range c.in_ok-function.ensures in
    let tests = ap (λ (x : Function). (leb a.p 8 && ltb x.a a.p) && ltb x.b a.p) (sym on.1) ∙ c.if-p-function.true in
    simp (sym (in_range a.p a.f on.0) ∙ tests, on.1)

pub returns : goal.returns
returns c =
    let a = c.args in
    let on = tested_ok (ltb a.f 192) (function_of a.f) c.in_ok-function.function Refusal.Range c.in_ok-function.ensures in
    let tests = ap (λ (x : Function). (leb a.p 8 && ltb x.a a.p) && ltb x.b a.p) (sym on.1) ∙ c.if-p-function.false in
    simp (sym (in_range a.p a.f on.0) ∙ tests)
