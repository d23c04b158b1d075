-- `run::search::search_flagged` meets its contract. The invariant: the nodes that are passed hold nothing, so the search from here on has the answer
-- of the whole search; and the flags are right.
use Prim.Native.Nat.{◌+◌, ◌*◌, ◌≤◌}
use native.Mathlib.Omega.{arith}
use lib.ListN.{length}
use Rattle.table.proofs.Places.{block_fits}
use Rattle.table.proofs.Firsts.{part_found, part_passed}
use Rattle.table.proofs.Walk.{at_start, node_passed, all_passed}
use Rattle.run.proofs.search.search_flagged.Goals as goal
use Rattle.run.proofs.search.search_flagged.Goals.{In-loop-node}

inside : (c : In-loop-node) → ((c.loop-node.node * (c.args.n * c.args.stacks)) + c.args.n * c.args.stacks) ≤ length c.args.table.now.waiting.now
inside c =
    let a = c.args in
    omega (arith, c.requires.1, block_fits (a.n * a.stacks) c.loop-node.node a.n c.loop-node-test.true)

pub loop-node-init : goal.loop-node-init
loop-node-init c = (at_start _ _, c.requires.2)

pub returns-in-Some : goal.returns-in-Some
returns-in-Some c = record {
  value = part_found _ (c.loop-node.node * (c.args.n * c.args.stacks)) ((c.loop-node.node * (c.args.n * c.args.stacks)) + c.args.n * c.args.stacks)
      c.loop-node.invariant.0 (inside (goal.at.returns-in-Some c).In-loop-node) _ _ _ c.search_node.ensures.value c.in-Some.is;
  low = c.in-Some.ensures.low;
  flagged = c.search_node.ensures.flagged;
}

pub loop-node-preserved : goal.loop-node-preserved
loop-node-preserved c =
    let found = c.search_node.ensures.value in
    let behind = part_passed _ (c.loop-node.node * (c.args.n * c.args.stacks)) ((c.loop-node.node * (c.args.n * c.args.stacks)) + c.args.n * c.args.stacks)
    c.loop-node.invariant.0 (inside (goal.at.loop-node-preserved c).In-loop-node) _ found c.in_default.is (omega arith) in
    (node_passed _ _ c.loop-node.node _ (omega arith) (omega arith) behind, c.search_node.ensures.flagged)

pub returns : goal.returns
returns c =
    let l = c.loop-node in
    record { value = all_passed _ c.args.n _ l.node c.requires.1 l.auto.node-end c.loop-node-test.false l.invariant.0; low = tt; flagged = l.invariant.1 }
