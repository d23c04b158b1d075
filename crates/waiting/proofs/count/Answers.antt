-- `waiting::count` meets its contract.
use mathlib.Core.Path.{sym, ap, ◌∙◌}
use native.Mathlib.Omega.{arith}
use Rattle.std.proofs.Common.{rules, ◌≡◌, Ok, Err}
use Rattle.words.specs.Words.{ones_in}
use Rattle.words.proofs.Search.{count_few}
use Rattle.network.specs.Handed.{network}
use Rattle.table.specs.Handed.{table_seen}
use Rattle.table.proofs.Begins.{is_ready, rows_few}
use Rattle.waiting.proofs.Found.{answers, refuses}
use Rattle.waiting.proofs.count.Goals as goal

pub returns-in_err-ready : goal.returns-in_err-ready
returns-in_err-ready c =
    let a = c.args in
    let same : c.from_residual.result ≡ Err c.in_err-ready.field-0.0 = search rules in
    same ∙ refuses (network a.net.now) (table_seen a.table.now) _ c.in_err-ready.field-0.0 c.in_err-ready.ensures

pub returns : goal.returns
returns c =
    let a = c.args in
    let words = a.table.now.waiting.now in
    let r = is_ready (network a.net.now) (table_seen a.table.now) c.in_ok-ready.field-0 (sym c.in_ok-ready.ensures) in
    let few = rows_few (network a.net.now) (table_seen a.table.now) c.in_ok-ready.field-0 r in
    ap Ok (c.ones_in.ensures ∙ count_few words (omega (arith, few)))
    ∙ answers (network a.net.now) (table_seen a.table.now) c.in_ok-ready.field-0 r (ones_in words)
