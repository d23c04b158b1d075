-- `carry::carry` meets its contract.
use native.Mathlib.Omega.{arith}
use Rattle.network.specs.Handed.{network}
use Rattle.table.specs.Handed.{table_seen}
use Rattle.carry.proofs.Carries.{stands, carried, too_far, refused}
use Rattle.carry.proofs.carry.Goals as goal

pub returns-in-Err : goal.returns-in-Err
returns-in-Err c =
    let a = c.args in
    rw c.zeros.ensures (refused (network a.net.now) (table_seen a.table.now) a.node a.destination a.stack.now a.limit c.in-Err.refusal c.in-Err.ensures)

pub returns-then-limit-gt16384 : goal.returns-then-limit-gt16384
returns-then-limit-gt16384 c =
    let a = c.args in
    rw c.zeros-then-limit-gt16384.ensures (too_far (network a.net.now) (table_seen a.table.now) a.node a.destination a.stack.now a.limit
    c.in-Ok.packet c.in-Ok.ensures (omega arith))

pub travel-requires-clause-placed : goal.travel-requires-clause-placed
travel-requires-clause-placed c =
    let a = c.args in
    stands (network a.net.now) (table_seen a.table.now) a.node a.destination a.stack.now a.limit c.in-Ok.packet c.in-Ok.ensures

pub returns : goal.returns
returns c =
    let a = c.args in
    carried (network a.net.now) (table_seen a.table.now) a.node a.destination a.stack.now a.limit c.in-Ok.packet c.in-Ok.ensures (omega arith)
    c.travel.result c.travel.ensures
