use mathlib.Core.Path.{◌≡◌}
use Rattle.lists.specs.Lists.{tabulate}
use Rattle.gateways.specs.Gateways.{word_at}
use Rattle.gateways.proofs.fn.grid.from_fn.Given as goal

abbrev pub ensures : goal.ensures
ensures l r = r ≡ tabulate 8 (λ b. word_at l.net.entry.now.n l.net.entry.now.p l.net.entry.now.functions.now l.node l.kind l.a b)
