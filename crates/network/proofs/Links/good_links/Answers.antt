-- `network::Links::good_links` meets its contract: it asks of each node what `half_links` asks.
use native.Mathlib.Omega.{arith}
use mathlib.Core.Path.{refl, ◌∙◌}
use Rattle.std.proofs.Common.{rules}
use Rattle.std.proofs.lemmas.Iterator.{YieldsList-from_range}
use Rattle.std.proofs.lemmas.Iterator.Search.{all_from_yields_List}
use Rattle.lists.proofs.Ranges.{all_every}
use Rattle.network.specs.Steps.{half_links}
use Rattle.network.proofs.Links.good_links.Goals as goal

pub returns : goal.returns
unfolding half_links
returns c =
    let a = c.args in
    all_from_yields_List _ _ _ _ c.all.ensures.ran (YieldsList-from_range 0 a.self.now.n a.self.now.n refl (omega arith)) (λ x b q k. search rules)
    ∙ all_every a.self.now.n _
