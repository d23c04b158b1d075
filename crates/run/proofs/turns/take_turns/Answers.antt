-- `run::turns::take_turns` meets its contract: each turn is a turn of the run, and the flags stay right.
use Prim.Native.Nat.{◌+◌}
use mathlib.Core.Path.{refl, ap, ◌∙◌}
use native.Mathlib.Omega.{arith}
use Rattle.std.specs.Prelude.{Some, None, Ok}
use Rattle.network.specs.Handed.{network}
use Rattle.network.proofs.Laws.{valid}
use Rattle.table.specs.Handed.{table_held}
use Rattle.table.proofs.Slices.{same_twice}
use Rattle.run.proofs.Turning.{countable}
use Rattle.run.proofs.Keeping.{Keeps, keeps_first, keeps_on, ran_ends, ran_out, flags_set}
use Rattle.run.proofs.turns.take_turns.Goals as goal
use Rattle.run.proofs.turns.take_turns.Goals.{In-Ok-Some}

-- what the loop keeps after a turn that made offers
next : (c : In-Ok-Some) → let a = c.args in let l = c.loop-done in let x = c.take_turn.new in
    Keeps (network a.net.now) a.stacks a.limit (table_held a.table.now) (l.done + 1) (l.offers + c.in-Ok-Some.taken) (table_held x.table) x.flags
next c =
    let a = c.args in
    let l = c.loop-done in
    let x = c.take_turn in
    keeps_on (network a.net.now) a.stacks a.limit (table_held a.table.now) l.done l.offers c.in-Ok-Some.taken (table_held l.table) (table_held x.new.table)
    l.flags x.new.flags x.result c.requires.network (omega arith) l.invariant.0 x.ensures.0 (c.in-Ok-Some.is ∙ ap Ok c.in-Ok-Some.field-0-is)

pub equip-requires-clause-few : goal.equip-requires-clause-few
equip-requires-clause-few c = (valid (network c.args.net.now) c.requires.network).few

pub all_flags-flags-requires : goal.all_flags-flags-requires
all_flags-flags-requires c = (valid (network c.args.net.now) c.requires.network).few

pub loop-done-init : goal.loop-done-init
loop-done-init c =
    let a = c.args in
    let w = valid (network a.net.now) c.requires.network in (
      keeps_first (network a.net.now) a.stacks a.limit (table_held a.table.now) _ c.requires.sized
          (flags_set a.net.now.n a.stacks c.all_flags-flags.result _ a.table.now.waiting.now w.few w.nodes c.all_flags-flags.ensures refl
          (countable (network a.net.now) a.stacks (table_held a.table.now) c.requires).long),
      (refl, refl, refl),
    )

pub overflow_add-offers : goal.overflow_add-offers
overflow_add-offers c = omega (arith, (next (goal.at.overflow_add-offers c).In-Ok-Some).few)

pub returns-in-Ok-None : goal.returns-in-Ok-None
returns-in-Ok-None c =
    let a = c.args in
    let l = c.loop-done in
    let x = c.take_turn in (
      ran_ends (network a.net.now) a.stacks a.limit (table_held a.table.now) l.done l.offers None (table_held l.table) (table_held x.new.table)
          l.flags x.new.flags x.result (omega arith) l.invariant.0 x.ensures.0 (c.in-Ok-None.is ∙ ap Ok c.in-Ok-None.field-0-is),
      same_twice a.table.now l.table x.new.table l.invariant.1 x.ensures.1,
    )

pub returns-in-Err : goal.returns-in-Err
returns-in-Err c =
    let a = c.args in
    let l = c.loop-done in
    let x = c.take_turn in (
      ran_ends (network a.net.now) a.stacks a.limit (table_held a.table.now) l.done l.offers (Some c.in-Err.refusal) (table_held l.table)
          (table_held x.new.table) l.flags x.new.flags x.result (omega arith) l.invariant.0 x.ensures.0 c.in-Err.is,
      same_twice a.table.now l.table x.new.table l.invariant.1 x.ensures.1,
    )

pub loop-done-preserved : goal.loop-done-preserved
loop-done-preserved c = (
  next (goal.at.loop-done-preserved c).In-Ok-Some,
  same_twice c.args.table.now c.loop-done.table c.take_turn.new.table c.loop-done.invariant.1
      c.take_turn.ensures.1,
)

pub returns : goal.returns
returns c =
    let a = c.args in (
      ran_out (network a.net.now) a.stacks a.limit (table_held a.table.now) c.loop-done.done c.loop-done.offers (table_held c.loop-done.table)
          c.loop-done.flags (omega arith) c.loop-done.invariant.0,
      c.loop-done.invariant.1,
    )
