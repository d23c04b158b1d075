-- `gateways::word_at` meets its contract: a law of the grids for each outcome of its test.
use mathlib.Core.Path.{sym, ◌∙◌}
use native.Mathlib.Omega.{arith}
use Rattle.network.proofs.Entries.{node_is}
use Rattle.network.proofs.Bounds.{product_fits, place_fits}
use Rattle.gateways.proofs.Entries.{Placed, place_says, word_none, word_there}
use Rattle.gateways.proofs.Bounds.{RowFits, row_fits}
use Rattle.gateways.proofs.word_at.Goals as goal
use Rattle.gateways.proofs.word_at.Goals.{Else-not-n-node}

pub returns-then-not-n-node : goal.returns-then-not-n-node
returns-then-not-n-node c =
    let a = c.args in
    sym (word_none a.net.now.n a.net.now.p a.net.now.functions.now a.node a.kind a.a a.b c.if-not-n-node.true)

-- the place and its row are in range, where the test is passed
place : (c : Else-not-n-node) → let a = c.args in Placed a.net.now.n a.net.now.p a.node a.kind a.a a.b
place c = let a = c.args in place_says a.net.now.n a.net.now.p a.node a.kind a.a a.b c.if-not-n-node.false

row : (c : Else-not-n-node) → let a = c.args in RowFits a.node a.kind a.net.now.p a.a
row c =
    let a = c.args in
    let z = place c in
    let u = node_is a.net.now.n a.node z.node in
    row_fits a.net.now.n a.node a.kind a.net.now.p a.a u.1 u.0 z.few (omega (arith, z.kinds)) z.from

pub overflow_mul-node : goal.overflow_mul-node
overflow_mul-node c = (row (goal.at.overflow_mul-node c).Else-not-n-node).grids

pub overflow_add-node : goal.overflow_add-node
overflow_add-node c = (row (goal.at.overflow_add-node c).Else-not-n-node).grid

pub overflow_mul-node-2 : goal.overflow_mul-node-2
overflow_mul-node-2 c = (row (goal.at.overflow_mul-node-2 c).Else-not-n-node).rows

pub overflow_add-node-2 : goal.overflow_add-node-2
overflow_add-node-2 c = (row (goal.at.overflow_add-node-2 c).Else-not-n-node).row

pub overflow_mul-node-3 : goal.overflow_mul-node-3
overflow_mul-node-3 c = let z = place (goal.at.overflow_mul-node-3 c).Else-not-n-node in
    product_fits _ _ (omega (arith, (row (goal.at.overflow_mul-node-3 c).Else-not-n-node).low)) (omega (arith, z.few))

pub overflow_add-node-3 : goal.overflow_add-node-3
overflow_add-node-3 c = let z = place (goal.at.overflow_add-node-3 c).Else-not-n-node in
    place_fits _ _ _ (omega (arith, (row (goal.at.overflow_add-node-3 c).Else-not-n-node).low)) (omega (arith, z.few)) (omega (arith, z.few, z.to))

pub returns : goal.returns
returns c =
    let a = c.args in
    c.entry.ensures ∙ sym (word_there a.net.now.n a.net.now.p a.net.now.functions.now a.node a.kind a.a a.b c.if-not-n-node.false)
