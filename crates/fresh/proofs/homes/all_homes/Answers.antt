-- `fresh::homes::all_homes` meets its contract. The invariant: the homes of the nodes before this one are set.
use Prim.Native.Nat.{◌+◌, ◌*◌}
use mathlib.Core.Path.{◌≡◌, sym, ap, ◌∙◌}
use native.Mathlib.Omega.{arith}
use Rattle.words.specs.Words.{ones_in}
use Rattle.fresh.specs.Filling.{costs_below, waits_below}
use Rattle.fresh.proofs.HomePlaces.{none_waits}
use Rattle.fresh.proofs.homes.all_homes.Goals as goal

pub loop-node-init : goal.loop-node-init
loop-node-init c =
    let net = c.args.net.now in
    let e : 0 ≡ (0 * net.n + 0) * c.args.stacks = omega arith in (
      c.requires.1 ∙ ap (costs_below net.n net.p c.args.stacks net.functions.now) e,
      c.requires.2 ∙ ap (waits_below net.n net.p c.args.stacks net.functions.now net.links.now) e,
      sym (ap ones_in c.requires.2 ∙ none_waits _ _ _),
    )

pub node_homes-messages-requires : goal.node_homes-messages-requires
node_homes-messages-requires c =
    let l = c.loop-node in
    (c.requires.0, c.loop-node-test.true, l.invariant.0, l.invariant.1, l.invariant.2)

pub loop-node-preserved : goal.loop-node-preserved
loop-node-preserved c =
    let done = c.node_homes-messages.ensures in
    (done.0, done.1, done.2)

pub returns : goal.returns
returns c =
    let a = c.args in
    let net = a.net.now in
    let l = c.loop-node in
    let last : l.node ≡ net.n = omega arith in (
      l.invariant.0 ∙ ap (λ k. costs_below net.n net.p a.stacks net.functions.now ((k * net.n + k) * a.stacks)) last,
      l.invariant.1 ∙ ap (λ k. waits_below net.n net.p a.stacks net.functions.now net.links.now ((k * net.n + k) * a.stacks)) last,
      l.invariant.2,
    )
