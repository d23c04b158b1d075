-- The closure of `gateways::grid` meets its contract: each call answers a word of the row.
use Rattle.std.proofs.Common.{rules}
use Rattle.lists.proofs.Ranges.{array_tabulate}
use Rattle.gateways.proofs.fn.grid.from_fn.Goals as goal

pub returns : goal.returns
returns c = (array_tabulate 0 _ (λ x r q k. search rules) _ 8 c.from_fn.ensures.items, search rules)
