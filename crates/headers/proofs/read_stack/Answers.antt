-- `headers::read_stack` meets its contract: a law of proofs/Answering.antt for each return.
use Prim.Native.Nat.{◌≤◌}
use Rattle.std.specs.Prelude.{Err}
use Rattle.std.proofs.Common.{rules}
use Rattle.headers.proofs.Answering.{Answers, chain_refused, stack_written, no_room}
use Rattle.headers.proofs.read_stack.Goals as goal

pub returns-in_err-chain : goal.returns-in_err-chain
returns-in_err-chain c =
    let a = c.args in
    let b : (1 ≤ a.h) × (a.h ≤ 12) = search rules in
    let is : Answers a.h a.packet.now a.out.now (Err c.in_err-chain.field-0.0) a.out.now = chain_refused a.h a.packet.now a.out.now b c.in_err-chain.ensures in
    search rules

pub returns-in-Ok : goal.returns-in-Ok
returns-in-Ok c =
    let a = c.args in
    let b : (1 ≤ a.h) × (a.h ≤ 12) = search rules in
    stack_written a.h a.packet.now a.out.now b c.in_ok-chain.ensures c.in-Ok.ensures.0 c.in-Ok.ensures.1

pub returns-in-Err : goal.returns-in-Err
returns-in-Err c =
    let a = c.args in
    let b : (1 ≤ a.h) × (a.h ≤ 12) = search rules in
    rw c.at-in-Err.ensures (no_room a.h a.packet.now a.out.now b c.in_ok-chain.ensures c.in-Err.ensures.0 c.in-Err.ensures.1)
