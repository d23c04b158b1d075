-- `step::step` meets its contract: a law of proofs/Hearing.antt for each return.
use mathlib.Core.Path.{◌≡◌}
use lib.ListN.{length, length-set}
use Rattle.std.proofs.Common.{rules, Err}
use Rattle.hear.specs.Handed.{gateway_seen}
use Rattle.table.specs.Handed.{table_held}
use Rattle.step.proofs.Tells.{Passed, passed, Lends, lends}
use Rattle.step.proofs.Hearing.{refuses, delivers}
use Rattle.step.proofs.step.Goals as goal
use Rattle.step.proofs.step.Goals.{In_ok-told}

pub returns-in_err-told : goal.returns-in_err-told
returns-in_err-told c =
    let a = c.args in
    let m = a.message in
    let same : c.from_residual.result ≡ Err c.in_err-told.field-0.0 = search rules in (
      rw same (refuses a.n (gateway_seen a.gateway) a.link (table_held a.table.now) m.sender m.receiver m.destination m.number c.in_err-told.field-0.0
          c.in_err-told.ensures),
      search rules,
    )

-- where the tests hold: what they said, and that the sums fit
pass : (c : In_ok-told) → let a = c.args in let m = a.message in
    Passed a.n a.gateway.p a.gateway.most a.link (table_held a.table.now) m.sender m.receiver m.destination m.number c.in_ok-told.told.place
    c.in_ok-told.told.cost
pass c =
    let a = c.args in
    let m = a.message in
    passed a.n a.gateway.p a.gateway.most a.link (table_held a.table.now) m.sender m.receiver m.destination m.number c.in_ok-told.told c.in_ok-told.ensures

lent : (c : In_ok-told) → let a = c.args in let t = a.table.now in
    Lends a.n a.gateway.most a.message.receiver c.in_ok-told.told.place (length t.cost.now) (length t.way.now) (length t.waiting.now)
lent c =
    let a = c.args in
    let m = a.message in
    lends a.n a.gateway.p a.gateway.most a.link (table_held a.table.now) m.sender m.receiver m.destination m.number c.in_ok-told.told.place
    c.in_ok-told.told.cost (pass c)

pub offset_bounds-table-told : goal.offset_bounds-table-told
offset_bounds-table-told c = (lent (goal.at.offset_bounds-table-told c).In_ok-told).place_bytes

pub bounds-table-told : goal.bounds-table-told
bounds-table-told c = (lent (goal.at.bounds-table-told c).In_ok-told).inside

pub offset_bounds-table-told-2 : goal.offset_bounds-table-told-2
offset_bounds-table-told-2 c = (lent (goal.at.offset_bounds-table-told-2 c).In_ok-told).place_bytes

pub bounds-table-told-2 : goal.bounds-table-told-2
bounds-table-told-2 c = (lent (goal.at.bounds-table-told-2 c).In_ok-told).inside

pub overflow_mul-n : goal.overflow_mul-n
overflow_mul-n c = (lent (goal.at.overflow_mul-n c).In_ok-told).rows

pub receive-requires : goal.receive-requires
receive-requires c = rw length-set (lent (goal.at.receive-requires c).In_ok-told).part

pub returns : goal.returns
returns c =
    let a = c.args in
    let m = a.message in
    let x = c.receive in (
      delivers a.n (gateway_seen a.gateway) a.link (table_held a.table.now) m.sender m.receiver m.destination m.number c.in_ok-told.told.place
          c.in_ok-told.told.cost (pass (goal.at.returns c).In_ok-told) c.without.result x.result _ c.without.ensures x.ensures,
      search rules,
    )
