-- `fresh::fresh` meets its contract: what each call leaves is what the next one asks for.
use mathlib.Core.Path.{sym, ◌∙◌}
use Rattle.std.proofs.Common.{rules, ◌≡◌, Err}
use Rattle.network.specs.Handed.{network}
use Rattle.table.specs.Handed.{table_held}
use Rattle.table.proofs.Begins.{Ready, is_ready, is_refused}
use Rattle.fresh.proofs.Starts.{shape_of, none_yet, fresh_table_lem, fresh_count, fresh_refused}
use Rattle.fresh.proofs.fresh.Goals as goal
use Rattle.fresh.proofs.fresh.Goals.{In_ok-stacks}

-- the network and the table are found right
found : (c : In_ok-stacks) → Ready (network c.args.net.now) (table_held c.args.table.now) c.in_ok-stacks.stacks
found c = is_ready (network c.args.net.now) (table_held c.args.table.now) c.in_ok-stacks.stacks (sym c.in_ok-stacks.ensures)

pub all_homes-requires : goal.all_homes-requires
all_homes-requires c =
    let r = found (goal.at.all_homes-requires c).In_ok-stacks in (
      shape_of _ _ _ r,
      none_yet _ _ _ r _ _ _ _ _ r.cost_long (c.fill.ensures.after (λ y e. search rules)),
      none_yet _ _ _ r _ _ _ _ _ r.waiting_long (c.fill-3.ensures.after (λ y e. search rules)),
    )

pub returns : goal.returns
returns c =
    let r = found (goal.at.returns c).In_ok-stacks in
    let set = c.all_homes.ensures in
    let ways = c.fill-2.ensures.after (λ y e. search rules) in (
      fresh_count _ _ _ r _ _ _ set.0 ways set.1 _ set.2,
      fresh_table_lem _ _ _ r _ _ _ set.0 ways set.1,
      search rules,
    )

pub returns-in_err-stacks : goal.returns-in_err-stacks
returns-in_err-stacks c =
    let same : c.from_residual.result ≡ Err c.in_err-stacks.field-0.0 = search rules in
    let e = fresh_refused (network c.args.net.now) (table_held c.args.table.now) c.in_err-stacks.field-0.0
    (is_refused (network c.args.net.now) (table_held c.args.table.now) c.in_err-stacks.field-0.0 (sym c.in_err-stacks.ensures)) in
    (same ∙ e.0, e.1, search rules)
