-- `functions::moved` meets its contract: the tests on the way to each `return` are those of `ok_move`, and past them it is the function's own number.
use mathlib.Core.Path.{ap, ◌∙◌}
use mathlib.Core.Bool.{true, ◌&&◌}
use Prim.Native.Nat.{◌/◌, ◌%◌}
use lib.Dec.{leb}
use native.Mathlib.Omega.{arith}
use Rattle.std.specs.Prelude.{◌≡◌, Err}
use Rattle.std.proofs.Common.{rules}
use Rattle.refusal.specs.declared.Refusal.{Refusal}
use Rattle.refusal.proofs.Answers.{tested_ok, tested_err}
use Rattle.functions.specs.Functions.{ok_function}
use Rattle.functions.specs.Parts.{kind_number, function_of}
use Rattle.functions.specs.declared.Function.{Function}
use Rattle.functions.proofs.Parts.{move_kind}
use Rattle.functions.specs.Answers.{ok_move, move_number, moved_of}
use Rattle.functions.proofs.Tests.{moves, move_tests, no_move}
use Rattle.functions.proofs.moved.Goals as goal

pub returns-in_err-function : goal.returns-in_err-function
returns-in_err-function c =
    let a = c.args in
    let off = tested_err (leb 1 a.p && (leb a.p 8 && ok_function a.p a.f)) (function_of a.f) Refusal.Range _ c.in_err-function.ensures in
    let is : Err c.in_err-function.field-0.0 ≡ moved_of a.p a.most a.f a.number = simp (no_move a.p a.most a.f a.number off.0, off.1) in
    search rules

pub makes-requires : goal.makes-requires
makes-requires c =
    let a = c.args in
    let on = tested_ok (leb 1 a.p && (leb a.p 8 && ok_function a.p a.f)) (function_of a.f) c.in_ok-function.function Refusal.Range c.in_ok-function.ensures in
    let m = moves a.p a.most a.f a.number (move_tests a.p a.most a.f a.number on.0 ∙ c.if-most-number.true) in
    let b : c.in_ok-function.function.b ≡ a.f % 8 = ap (λ (f : Function). f.b) on.1 in
    (m.some, m.few, omega arith, m.number, omega (arith, m.bound, m.within_most))

pub returns-then-most-number : goal.returns-then-most-number
returns-then-most-number c =
    let a = c.args in
    let on = tested_ok (leb 1 a.p && (leb a.p 8 && ok_function a.p a.f)) (function_of a.f) c.in_ok-function.function Refusal.Range c.in_ok-function.ensures in
    let tests : ok_move a.p a.most a.f a.number ≡ true = move_tests a.p a.most a.f a.number on.0 ∙ c.if-most-number.true in
    simp tests (c.makes.ensures ∙ ap (λ (f : Function). move_number a.p a.most (kind_number f.kind) f.a f.b a.number) on.1
    ∙ move_kind a.p a.most (a.f / 64) (a.f / 8 % 8) (a.f % 8) a.number)

pub returns : goal.returns
returns c =
    let a = c.args in
    let on = tested_ok (leb 1 a.p && (leb a.p 8 && ok_function a.p a.f)) (function_of a.f) c.in_ok-function.function Refusal.Range c.in_ok-function.ensures in
    simp (move_tests a.p a.most a.f a.number on.0, c.if-most-number.false)
