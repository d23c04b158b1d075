-- `network::Links::good_row` meets its contract: it asks of the node itself and of each before it what `good_row` asks.
use native.Mathlib.Omega.{arith}
use mathlib.Core.Path.{refl, sym, ◌∙◌}
use borrow.Author.Tests.{eq-eqb}
use Rattle.std.proofs.Common.{rules}
use Rattle.std.proofs.lemmas.Iterator.{YieldsList-from_range}
use Rattle.std.proofs.lemmas.Iterator.Search.{all_from_yields_List}
use Rattle.lists.proofs.Ranges.{all_every}
use Rattle.network.specs.Steps.{good_pair, good_row}
use Rattle.network.proofs.Links.good_row.Goals as goal

pub returns-then-link_in-eq0 : goal.returns-then-link_in-eq0
unfolding good_row good_pair
returns-then-link_in-eq0 c =
    let a = c.args in
    rw (eq-eqb _ 0 (sym c.link_in.ensures ∙ c.if-link_in-eq0.true))
    (all_from_yields_List _ _ _ _ c.all.ensures.ran (YieldsList-from_range 0 a.u a.u refl (omega arith)) (λ x b q k. search rules)
    ∙ all_every a.u (λ W. good_pair a.self.now.n a.self.now.links.now a.u W))
