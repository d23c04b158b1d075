-- `gateways::accepts` meets its contract: it asks of each protocol the three tests that `receives_at` asks.
use native.Mathlib.Omega.{arith}
use mathlib.Core.Path.{refl, sym, ◌∙◌}
use borrow.Author.Tests.{lt-leb}
use Rattle.std.proofs.Common.{rules}
use Rattle.std.proofs.lemmas.Iterator.{YieldsList-from_range}
use Rattle.std.proofs.lemmas.Iterator.Search.{any_from_yields_List}
use Rattle.lists.proofs.Ranges.{any_some}
use Rattle.gateways.specs.Gateways.{accepts}
use Rattle.gateways.proofs.Accepting.{receives_by, received, many_protocols}
use Rattle.gateways.proofs.accepts.Goals as goal

pub returns-then-net-le8 : goal.returns-then-net-le8
unfolding accepts
returns-then-net-le8 c =
    let a = c.args in
    any_from_yields_List (receives_by a.net.now.n a.net.now.p a.net.now.functions.now a.node a.x) _ _ _ c.any.ensures.ran
    (YieldsList-from_range 0 a.net.now.p a.net.now.p refl (omega arith))
    (λ x b q k. search rules)
    ∙ any_some a.net.now.p _
    ∙ received a.net.now.n a.net.now.p a.net.now.functions.now a.node a.x

pub returns-else-net-le8 : goal.returns-else-net-le8
unfolding accepts
returns-else-net-le8 c =
    let a = c.args in
    lt-leb a.net.now.p 8 c.if-net-le8.false ∙ sym (many_protocols a.net.now.n a.net.now.p a.net.now.functions.now a.node a.x c.if-net-le8.false)
