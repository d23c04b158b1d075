-- `run::search::search_node` meets its contract. The invariant: `left` is the node's flags, and the flags are right. Each turn clears one flag, so
-- the word falls.
use mathlib.Core.Path.{◌≡◌, refl, sym, ap, subst, ◌∙◌}
use Prim.Native.Nat.{ℕ, ◌<◌}
use native.Mathlib.Omega.{arith}
use lib.ListN.{length, get_or, set}
use lib.Seq.{get_or-set_same}
use Rattle.bits.specs.Bits.{without, lowest}
use Rattle.run.specs.Flags.{Flagged}
use Rattle.table.proofs.Places.{few_blocks}
use Rattle.run.proofs.Blocks.{AtNode, AtFlag, node_empty, destination_below, block_inside, block_found, block_empty, flag_falls, bit_low}
use Rattle.run.proofs.search.search_node.Goals as goal
use Rattle.run.proofs.search.search_node.Goals.{After-lowest-destination, After-without-left, At-loop-left}

-- the laws' premises at the loop's head, and in a turn, which looks at the lowest flag
at-node : (c : At-loop-left)
    → AtNode c.args.n c.args.stacks c.loop-left.flags c.args.waiting.now c.args.node
at-node c = record { flagged = c.loop-left.invariant.1; below = c.requires.0; rows = c.requires.2 }

at_flag : (c : After-lowest-destination)
    → AtFlag c.args.n c.args.stacks c.loop-left.flags c.args.waiting.now
    c.args.node c.lowest-destination.result
at_flag c = record {
  node = (record { flagged = c.loop-left.invariant.1; below = c.requires.0; rows = c.requires.2 });
  some = λ z. c.loop-left-test.true (c.loop-left.invariant.0 ∙ z);
  first = c.lowest-destination.ensures ∙ ap lowest c.loop-left.invariant.0;
}

pub loop-left-init : goal.loop-left-init
loop-left-init c = (refl, c.requires.3)

pub overflow_mul-from : goal.overflow_mul-from
overflow_mul-from c = omega (
  arith,
  few_blocks _ _ _ c.requires.3.fits c.requires.0
      (destination_below (at_flag (goal.at.overflow_mul-from c).After-lowest-destination)),
)

pub overflow_add-from : goal.overflow_add-from
overflow_add-from c = omega (
  arith,
  few_blocks _ _ _ c.requires.3.fits c.requires.0
      (destination_below (at_flag (goal.at.overflow_add-from c).After-lowest-destination)),
)

pub overflow_mul-from-in-loop-left : goal.overflow_mul-from-in-loop-left
overflow_mul-from-in-loop-left c = omega (arith, block_inside (at_flag (goal.at.overflow_mul-from-in-loop-left c).After-lowest-destination))

pub overflow_add-from-in-loop-left : goal.overflow_add-from-in-loop-left
overflow_add-from-in-loop-left c = omega (arith, block_inside (at_flag (goal.at.overflow_add-from-in-loop-left c).After-lowest-destination))

pub returns-in-Some : goal.returns-in-Some
returns-in-Some c =
    record {
      value = block_found (at_flag (goal.at.returns-in-Some c).After-lowest-destination) _ _ c.first_in.ensures c.in-Some.is;
      low = bit_low _ _ _ _ (λ k. (c.type_inv.waiting k).fits) (sym c.first_in.ensures ∙ c.in-Some.is);
      flagged = c.loop-left.invariant.1;
    }

-- what is stored is the node's word without its lowest flag
cleared : (c : After-without-left)
    → c.without-left.result ≡ without (get_or c.loop-left.flags c.args.node 0) c.lowest-destination.result
cleared c = c.without-left.ensures ∙ ap (λ (w : ℕ). without w c.lowest-destination.result) c.loop-left.invariant.0

pub loop-left-smaller : goal.loop-left-smaller
loop-left-smaller c = omega (
  arith,
  cleared (goal.at.loop-left-smaller c).After-without-left,
  c.loop-left.invariant.0,
  flag_falls
      (at_flag (goal.at.loop-left-smaller c).After-lowest-destination),
)

pub loop-left-preserved : goal.loop-left-preserved
loop-left-preserved c =
    let a = c.args in
    let inside : a.node < length c.loop-left.flags = omega (arith, c.loop-left.invariant.1.long, c.requires.3.fits, c.requires.0) in (
      sym (get_or-set_same c.loop-left.flags a.node c.without-left.result 0 inside),
      subst (λ (w : ℕ). Flagged a.n a.stacks (set c.loop-left.flags a.node w) a.waiting.now) (sym (cleared (goal.at.loop-left-preserved c).After-without-left))
          (block_empty (at_flag (goal.at.loop-left-preserved c).After-lowest-destination) _ c.first_in.ensures c.in_default.is),
    )

pub returns : goal.returns
returns c = record {
  value = node_empty (at-node (goal.at.returns c).At-loop-left) (sym c.loop-left.invariant.0 ∙ c.loop-left-test.false);
  low = tt;
  flagged = c.loop-left.invariant.1;
}
