-- `gateways::grid` meets its contract: each call answers a row of the grid.
use mathlib.Core.List.{[]}
use Rattle.std.proofs.Common.{rules}
use Rattle.lists.proofs.Ranges.{array_tabulate}
use Rattle.gateways.proofs.grid.Goals as goal

pub returns : goal.returns
returns c = array_tabulate [] _ (λ x r q k. search rules) _ 8 c.from_fn.ensures.items
