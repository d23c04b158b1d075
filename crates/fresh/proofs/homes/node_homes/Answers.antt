-- `fresh::homes::node_homes` meets its contract. The invariant: the homes before protocol x of the node are set.
use Prim.Native.Nat.{◌+◌, ◌*◌, ◌/◌, ◌≤◌, ◌<◌}
use mathlib.Core.Path.{◌≡◌, refl, sym, ap, ◌∙◌}
use native.Mathlib.Omega.{arith}
use Rattle.words.specs.Words.{ones_in}
use Rattle.network.specs.Network.{neighbours_at}
use Rattle.gateways.specs.Gateways.{accepts}
use Rattle.table.specs.Table.{no_row}
use Rattle.fresh.specs.Filling.{costs_below, waits_below}
use Rattle.fresh.proofs.HomePlaces.{below_length, place_low, place_node, first_most, rows_most, turn_set, turn_skip, turn_last, messages_fit, messages_more}
use Rattle.fresh.proofs.homes.node_homes.Goals as goal
use Rattle.fresh.proofs.homes.node_homes.Goals.{then-accepts, else-accepts}
use Rattle.fresh.proofs.homes.node_homes.Goals.{Start, Then-accepts}

-- where the node's own rows begin
begins : (c : Start) → let net = c.args.net.now in (c.args.node * net.n ≤ 1024) × ((c.args.node * net.n + c.args.node) * c.args.stacks ≤ 524288)
begins c = let net = c.args.net.now in first_most net.n net.p c.args.stacks c.requires.0 c.args.node c.requires.1

pub overflow_mul-first : goal.overflow_mul-first
overflow_mul-first c = omega (arith, begins (goal.at.overflow_mul-first c).Start)

pub overflow_add-first : goal.overflow_add-first
overflow_add-first c = omega (arith, c.requires.0.few, c.requires.1, begins (goal.at.overflow_add-first c).Start)

pub overflow_mul-first-2 : goal.overflow_mul-first-2
overflow_mul-first-2 c = omega (arith, begins (goal.at.overflow_mul-first-2 c).Start)

pub loop-x-init : goal.loop-x-init
loop-x-init c =
    let a = c.args in
    let net = a.net.now in
    let e : (a.node * net.n + a.node) * a.stacks ≡ (a.node * net.n + a.node) * a.stacks + 0 = omega arith in (
      c.requires.2 ∙ ap (costs_below net.n net.p a.stacks net.functions.now) e,
      c.requires.3 ∙ ap (waits_below net.n net.p a.stacks net.functions.now net.links.now) e,
      c.requires.4,
    )

-- the row that is set is one of the table's
row : (c : Then-accepts) → let a = c.args in let net = a.net.now in
    ((a.node * net.n + a.node) * a.stacks + c.loop-x.x < net.n * (net.n * a.stacks)) × (net.n * (net.n * a.stacks) ≤ 524288)
row c =
    let a = c.args in
    let net = a.net.now in
    (place_low net.n net.p a.stacks c.requires.0 a.node c.loop-x.x c.requires.1 c.loop-x-test.true, rows_most net.n net.p a.stacks c.requires.0)

pub overflow_add-cost : goal.overflow_add-cost
overflow_add-cost c = omega (arith, row (goal.at.overflow_add-cost c).Then-accepts)

pub offset_bounds-cost-first : goal.offset_bounds-cost-first
offset_bounds-cost-first c = omega (arith, row (goal.at.offset_bounds-cost-first c).Then-accepts)

pub bounds-cost-first : goal.bounds-cost-first
bounds-cost-first c =
    let l = c.loop-x in
    omega (arith, row (goal.at.bounds-cost-first c).Then-accepts, below_length _ _ _ _ _ _ l.invariant.0)

pub overflow_add-waiting : goal.overflow_add-waiting
overflow_add-waiting c = omega (arith, row (goal.at.overflow_add-waiting c).Then-accepts)

pub offset_bounds-waiting-first : goal.offset_bounds-waiting-first
offset_bounds-waiting-first c = omega (arith, row (goal.at.offset_bounds-waiting-first c).Then-accepts)

pub bounds-waiting-first : goal.bounds-waiting-first
bounds-waiting-first c =
    let l = c.loop-x in
    omega (arith, row (goal.at.bounds-waiting-first c).Then-accepts, below_length _ _ _ _ _ _ l.invariant.1)

pub overflow_add-messages : goal.overflow_add-messages
overflow_add-messages c =
    let l = c.loop-x in
    let a = c.args in
    let net = a.net.now in
    omega (
      arith,
      messages_fit net.n net.p a.stacks c.requires.0 net.functions.now _ a.node l.x c.requires.1 c.loop-x-test.true
          l.waiting l.invariant.1 l.messages c.from-each.result c.neighbours-word.result (c.from-each.ensures ∙ c.ones.ensures) l.invariant.2,
    )

pub loop-x-preserved : goal.loop-x-preserved
unfolding accepts
loop-x-preserved c =
    let a = c.args in
    let net = a.net.now in
    let l = c.loop-x in
    let low = c.loop-x-test.true in
    let answer = sym c.accepts.ensures in
    let word = c.neighbours-word in
    elim c.if-accepts.branch [
      | then-accepts w ↦ (
        w.cost-is ∙ turn_set net.n net.p a.stacks c.requires.0 net.functions.now (λ i. 0) no_row a.node c.requires.1 l.cost l.x 0 low
            (answer ∙ w.if-accepts.true) refl l.invariant.0,
        w.waiting-is
            ∙ turn_set net.n net.p a.stacks c.requires.0 net.functions.now (λ i. neighbours_at net.n net.links.now (i / a.stacks / net.n)) 0 a.node
            c.requires.1 l.waiting l.x word.result low (answer ∙ w.if-accepts.true)
            (word.ensures ∙ ap (neighbours_at net.n net.links.now) (sym (place_node net.n net.p a.stacks c.requires.0 a.node l.x c.requires.1 low)))
            l.invariant.1,
        w.messages-is
            ∙ messages_more net.n net.p a.stacks c.requires.0 net.functions.now _ a.node l.x c.requires.1 low l.waiting l.invariant.1
            l.messages c.from-each.result word.result (c.from-each.ensures ∙ c.ones.ensures) l.invariant.2
            ∙ ap ones_in (sym w.waiting-is),
      )
      | else-accepts w ↦ (
        w.cost-is ∙ turn_skip net.n net.p a.stacks c.requires.0 net.functions.now (λ i. 0) no_row a.node c.requires.1 l.cost l.x low
            (answer ∙ w.if-accepts.false) l.invariant.0,
        w.waiting-is
            ∙ turn_skip net.n net.p a.stacks c.requires.0 net.functions.now (λ i. neighbours_at net.n net.links.now (i / a.stacks / net.n)) 0 a.node
            c.requires.1 l.waiting l.x low (answer ∙ w.if-accepts.false)
            l.invariant.1,
        w.messages-is ∙ l.invariant.2 ∙ ap ones_in (sym w.waiting-is),
      )
    ]

pub returns : goal.returns
returns c =
    let a = c.args in
    let net = a.net.now in
    let l = c.loop-x in
    let last : l.x ≡ net.p = omega arith in (
      turn_last net.n net.p a.stacks c.requires.0 net.functions.now (λ i. 0) no_row a.node c.requires.1 l.cost l.x last l.invariant.0,
      turn_last net.n net.p a.stacks c.requires.0 net.functions.now _ 0 a.node c.requires.1 l.waiting l.x last l.invariant.1,
      l.invariant.2,
    )
