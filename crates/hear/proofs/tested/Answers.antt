-- `hear::tested` meets its contract: the tests on the way to each `return` are those of `refused_by`.
use Prim.Native.Nat.{ℕ}
use mathlib.Core.Path.{ap}
use native.Mathlib.Omega.{arith}
use Rattle.refusal.specs.Numbers.{answered}
use borrow.Author.Tests.{le-leb, lt-leb}
use Rattle.hear.proofs.Answers.{Numbers, numbered, wrong_numbers, wrong_lengths, dear, cheap, next_fits, rows_fit}
use Rattle.hear.proofs.tested.Goals as goal
use Rattle.hear.proofs.tested.Goals.{Else-not-p-most}

pub returns-then-not-p-most : goal.returns-then-not-p-most
returns-then-not-p-most c =
    let a = c.args in
    ap (λ (k : ℕ). answered k tt)
    (wrong_numbers a.gateway.now.p a.gateway.now.most a.message.sender a.message.destination a.message.number a.message.cost a.costs a.ways a.waiting
    c.if-not-p-most.true)

pub returns-then-not-destination-most : goal.returns-then-not-destination-most
returns-then-not-destination-most c =
    let a = c.args in
    ap (λ (k : ℕ). answered k tt)
    (wrong_lengths a.gateway.now.p a.gateway.now.most a.message.sender a.message.destination a.message.number a.message.cost a.costs a.ways a.waiting
    c.if-not-destination-most.true)

pub returns-then-cost-gt2147303427 : goal.returns-then-cost-gt2147303427
returns-then-cost-gt2147303427 c =
    let a = c.args in
    ap (λ (k : ℕ). answered k tt)
    (dear a.gateway.now.p a.gateway.now.most a.message.sender a.message.destination a.message.number a.message.cost a.costs a.ways a.waiting
    c.if-not-p-most.false c.if-not-destination-most.false
    (lt-leb _ _ (omega arith)))

pub returns : goal.returns
returns c =
    let a = c.args in
    ap (λ (k : ℕ). answered k tt)
    (cheap a.gateway.now.p a.gateway.now.most a.message.sender a.message.destination a.message.number a.message.cost a.costs a.ways a.waiting
    c.if-not-p-most.false c.if-not-destination-most.false
    (le-leb _ _ (omega arith)))

-- the product of the lengths' test does not wrap
good : (c : Else-not-p-most) → let a = c.args in Numbers a.gateway.now.p a.gateway.now.most a.message.sender a.message.destination a.message.number
good c =
    let a = c.args in
    numbered a.gateway.now.p a.gateway.now.most a.message.sender a.message.destination a.message.number a.message.cost a.costs a.ways a.waiting
    c.if-not-p-most.false

pub overflow_add-destination : goal.overflow_add-destination
overflow_add-destination c = next_fits (good (goal.at.overflow_add-destination c).Else-not-p-most)

pub overflow_mul-destination : goal.overflow_mul-destination
overflow_mul-destination c = rows_fit (good (goal.at.overflow_mul-destination c).Else-not-p-most)
