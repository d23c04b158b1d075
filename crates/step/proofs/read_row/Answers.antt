-- `step::read_row` meets its contract: a law of proofs/Tells.antt for each return.
use native.Mathlib.Omega.{arith}
use Prim.Native.Nat.{◌+◌, ◌-◌, ◌*◌}
use mathlib.Core.Path.{◌≡◌, refl, sym, ◌∙◌}
use mathlib.Core.Bool.{true}
use lib.ListN.{length, get_or}
use Rattle.bits.specs.Bits.{has}
use Rattle.table.specs.Handed.{table_held}
use Rattle.table.specs.Answers.{ok_message_in}
use Rattle.step.specs.Step.{ok_rows}
use Rattle.step.proofs.Tests.{Reads, reads, in_part, in_whole}
use Rattle.step.proofs.Tells.{bad_sizes, bad_numbers, not_waiting, too_dear, no_link, tells}
use Rattle.step.proofs.read_row.Goals as goal
use Rattle.step.proofs.read_row.Goals.{After-read_cost-cost, Else-not-good_numbers, Else-not-good_sizes, Else-not-has}

fit : (c : Else-not-good_sizes)
    → (let a = c.args in let t = table_held a.table.now in ok_rows a.n a.p a.stacks (length t.cost) (length t.way) (length t.waiting) ≡ true)
fit c = sym c.good_sizes.ensures ∙ c.if-not-good_sizes.false

good : (c : Else-not-good_numbers)
    → (let a = c.args in let m = a.message in ok_message_in a.n a.stacks m.sender m.receiver m.destination m.number ≡ true)
good c = sym c.good_numbers.ensures ∙ c.if-not-good_numbers.false

fits-there : (c : Else-not-good_numbers) → let a = c.args in let m = a.message in let t = table_held a.table.now in
    Reads a.n a.stacks m.sender m.destination m.number (length t.cost) (length t.waiting)
fits-there c =
    let a = c.args in let m = a.message in let t = table_held a.table.now in
    reads a.n a.p a.stacks (length t.cost) (length t.way) (length t.waiting) m.sender m.receiver m.destination m.number
    (sym c.good_sizes.ensures ∙ c.if-not-good_sizes.false) (good c)

-- what the sender's part says of the row
told_is : (c : After-read_cost-cost) → let a = c.args in let m = a.message in
    c.read_cost-cost.result ≡ get_or a.table.now.cost.now (m.sender * (a.n * a.stacks) + (m.destination * a.stacks + (m.number - 1))) 0
told_is c =
    let a = c.args in let m = a.message in let t = table_held a.table.now in
    let rows = a.n * a.stacks in
    c.read_cost-cost.ensures ∙ in_whole t.cost (m.sender * rows) (m.sender * rows + rows - m.sender * rows) (m.destination * a.stacks + (m.number - 1))
    (reads a.n a.p a.stacks (length t.cost) (length t.way) (length t.waiting) m.sender m.receiver m.destination m.number
    (sym c.good_sizes.ensures ∙ c.if-not-good_sizes.false) (sym c.good_numbers.ensures ∙ c.if-not-good_numbers.false)).low

pub returns-then-not-good_sizes : goal.returns-then-not-good_sizes
returns-then-not-good_sizes c =
    let a = c.args in let m = a.message in
    bad_sizes a.n a.p a.stacks a.link (table_held a.table.now) m.sender m.receiver m.destination m.number
    (sym c.good_sizes.ensures ∙ c.if-not-good_sizes.true)

pub returns-then-not-good_numbers : goal.returns-then-not-good_numbers
returns-then-not-good_numbers c =
    let a = c.args in let m = a.message in
    bad_numbers a.n a.p a.stacks a.link (table_held a.table.now) m.sender m.receiver m.destination m.number
    (fit (goal.at.returns-then-not-good_numbers c).Else-not-good_sizes) (sym c.good_numbers.ensures ∙ c.if-not-good_numbers.true)

pub overflow_mul-rows_each : goal.overflow_mul-rows_each
overflow_mul-rows_each c = (fits-there (goal.at.overflow_mul-rows_each c).Else-not-good_numbers).rows

pub overflow_mul-start : goal.overflow_mul-start
overflow_mul-start c = (fits-there (goal.at.overflow_mul-start c).Else-not-good_numbers).start

pub overflow_add-end : goal.overflow_add-end
overflow_add-end c = (fits-there (goal.at.overflow_add-end c).Else-not-good_numbers).end

pub overflow_mul-at : goal.overflow_mul-at
overflow_mul-at c = (fits-there (goal.at.overflow_mul-at c).Else-not-good_numbers).block

pub overflow_sub-at : goal.overflow_sub-at
overflow_sub-at c = (fits-there (goal.at.overflow_sub-at c).Else-not-good_numbers).numbered

pub overflow_add-at : goal.overflow_add-at
overflow_add-at c = (fits-there (goal.at.overflow_add-at c).Else-not-good_numbers).row

pub overflow_add-place : goal.overflow_add-place
overflow_add-place c = (fits-there (goal.at.overflow_add-place c).Else-not-good_numbers).place

pub offset_bounds-table-place : goal.offset_bounds-table-place
offset_bounds-table-place c = (fits-there (goal.at.offset_bounds-table-place c).Else-not-good_numbers).place_bytes

pub bounds-table-place : goal.bounds-table-place
bounds-table-place c = (fits-there (goal.at.bounds-table-place c).Else-not-good_numbers).inside

pub returns-then-not-has : goal.returns-then-not-has
returns-then-not-has c =
    let a = c.args in let m = a.message in
    not_waiting a.n a.p a.stacks a.link (table_held a.table.now) m.sender m.receiver m.destination m.number
    (fit (goal.at.returns-then-not-has c).Else-not-good_sizes) (good (goal.at.returns-then-not-has c).Else-not-good_numbers)
    (m.sender * (a.n * a.stacks) + (m.destination * a.stacks + (m.number - 1))) refl (sym c.has.ensures ∙ c.if-not-has.true)

pub offset_bounds-table-start : goal.offset_bounds-table-start
offset_bounds-table-start c = (fits-there (goal.at.offset_bounds-table-start c).Else-not-good_numbers).start_bytes

pub slice_bounds-read_cost-end : goal.slice_bounds-read_cost-end
slice_bounds-read_cost-end c = (fits-there (goal.at.slice_bounds-read_cost-end c).Else-not-good_numbers).ends

pub read_cost-cost-requires : goal.read_cost-cost-requires
read_cost-cost-requires c = let f = fits-there (goal.at.read_cost-cost-requires c).Else-not-good_numbers in in_part _ _ _ _ f.ends f.low

-- the bit is set, of a place that lies behind the tests
waits : (c : Else-not-has) → let a = c.args in let m = a.message in
    has (get_or a.table.now.waiting.now (m.sender * (a.n * a.stacks) + (m.destination * a.stacks + (m.number - 1))) 0) m.receiver ≡ true
waits c = sym c.has.ensures ∙ c.if-not-has.false

pub returns-then-cost-gt2147303427 : goal.returns-then-cost-gt2147303427
returns-then-cost-gt2147303427 c =
    let a = c.args in let m = a.message in
    too_dear a.n a.p a.stacks a.link (table_held a.table.now) m.sender m.receiver m.destination m.number
    (fit (goal.at.returns-then-cost-gt2147303427 c).Else-not-good_sizes) (good (goal.at.returns-then-cost-gt2147303427 c).Else-not-good_numbers)
    (m.sender * (a.n * a.stacks) + (m.destination * a.stacks + (m.number - 1))) refl (waits (goal.at.returns-then-cost-gt2147303427 c).Else-not-has)
    c.read_cost-cost.result (told_is (goal.at.returns-then-cost-gt2147303427 c).After-read_cost-cost) (omega arith)

pub returns-then-link-eq0 : goal.returns-then-link-eq0
returns-then-link-eq0 c =
    let a = c.args in let m = a.message in
    no_link a.n a.p a.stacks a.link (table_held a.table.now) m.sender m.receiver m.destination m.number
    (fit (goal.at.returns-then-link-eq0 c).Else-not-good_sizes) (good (goal.at.returns-then-link-eq0 c).Else-not-good_numbers)
    (m.sender * (a.n * a.stacks) + (m.destination * a.stacks + (m.number - 1))) refl (waits (goal.at.returns-then-link-eq0 c).Else-not-has)
    c.read_cost-cost.result (told_is (goal.at.returns-then-link-eq0 c).After-read_cost-cost) (omega arith) c.if-link-eq0.true

pub returns : goal.returns
returns c =
    let a = c.args in let m = a.message in
    tells a.n a.p a.stacks a.link (table_held a.table.now) m.sender m.receiver m.destination m.number
    (fit (goal.at.returns c).Else-not-good_sizes) (good (goal.at.returns c).Else-not-good_numbers)
    (m.sender * (a.n * a.stacks) + (m.destination * a.stacks + (m.number - 1))) refl (waits (goal.at.returns c).Else-not-has) c.read_cost-cost.result
    (told_is (goal.at.returns c).After-read_cost-cost) (omega arith) c.if-link-eq0.false
