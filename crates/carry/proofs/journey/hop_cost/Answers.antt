-- `carry::journey::hop_cost` meets its contract: the node can use the function, so 1 is taken from no 0.
use Prim.Native.Nat.{ℕ, ◌<◌}
use mathlib.Core.Path.{◌≡◌}
use mathlib.Core.Bool.{true}
use native.Mathlib.Omega.{arith}
use borrow.Author.Rules.{rules}
use borrow.Author.Tests.{ltb-true}
use Rattle.network.specs.Network.{Network}
use Rattle.network.specs.Handed.{network}
use Rattle.gateways.specs.Gateways.{word, can, price, weight}
use Rattle.carry.proofs.journey.hop_cost.Goals as goal

able : (net : Network) (U f : ℕ) → can net U f ≡ true → 0 < word net U f
unfolding can
able net U f e = ltb-true 0 (word net U f) e

pub overflow_sub-result : goal.overflow_sub-result
overflow_sub-result c =
    let a = c.args in
    omega (arith, c.word-word.ensures, able (network a.net.now) a.node a.hop.function c.requires)

pub returns : goal.returns
unfolding weight price
returns c = search rules
