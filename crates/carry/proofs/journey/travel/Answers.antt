-- `carry::journey::travel` meets its contract: hop by hop, what is done and what is left are the journey from the start.
use Prim.Native.Nat.{ℕ}
use mathlib.Core.Path.{refl, sym, ◌∙◌}
use native.Mathlib.Omega.{arith}
use Rattle.std.proofs.Common.{rules, ◌≡◌}
use Rattle.std.specs.Prelude.{Ok}
use Rattle.network.specs.Handed.{network}
use Rattle.table.specs.Handed.{table_seen}
use Rattle.forward.specs.Forward.{look_at}
use Rattle.forward.specs.declared.Look.{Look}
use Rattle.carry.proofs.Travels.{Stops, looks, stops_here, told_by, limit_here, goes_on}
use Rattle.carry.proofs.journey.travel.Goals as goal
use Rattle.carry.proofs.journey.travel.Goals.{After-look-found, In-Ok-Forward, in_default-via-in-Ok+in_default, in_default-via-in_default}

-- what is looked up there
found : (c : After-look-found) → let a = c.args in
    c.look-found.result ≡ look_at (network a.net.now) (table_seen a.table.now) c.loop-hop.node a.destination c.loop-hop.number
found c =
    let a = c.args in
    looks (network a.net.now) (table_seen a.table.now) a.destination a.limit a.from a.first _ _ _ _ c.loop-hop.invariant a.stacks
    c.requires.placed c.look-found.ensures

-- the lookup forwards
forwarded : (c : In-Ok-Forward) → let a = c.args in
    Ok (Look.Forward c.in-Ok-Forward.hop) ≡ look_at (network a.net.now) (table_seen a.table.now) c.loop-hop.node a.destination c.loop-hop.number
forwarded c =
    let is : c.look-found.result ≡ Ok (Look.Forward c.in-Ok-Forward.hop) = search rules in
    sym is ∙ found c.before

pub returns-in_default : goal.returns-in_default
returns-in_default c =
    let a = c.args in
    let stops : Stops c.look-found.result = elim c.in_default.branch [
      | in_default-via-in-Ok+in_default w ↦ λ x e. search rules
      | in_default-via-in_default w ↦ λ x e. absurd (let z : ◌≡◌ {A = ℕ} 0 1 = cc in omega arith)
    ] in
    stops_here (network a.net.now) (table_seen a.table.now) a.destination a.limit a.from a.first _ _ _ _ c.loop-hop.invariant
    c.look-found.result _ (found (goal.at.returns-in_default c).After-look-found) stops refl refl refl refl
    (c.err.ensures.value ∙ told_by c.look-found.result)

pub returns-then-hops-limit : goal.returns-then-hops-limit
returns-then-hops-limit c =
    let a = c.args in
    limit_here (network a.net.now) (table_seen a.table.now) a.destination a.limit a.from a.first _ _ _ _ c.loop-hop.invariant
    c.in-Ok-Forward.hop (forwarded (goal.at.returns-then-hops-limit c).In-Ok-Forward) _ c.if-hops-limit.true refl refl refl refl refl

pub loop-hop-preserved : goal.loop-hop-preserved
loop-hop-preserved c =
    let a = c.args in
    goes_on (network a.net.now) (table_seen a.table.now) a.destination a.limit a.from a.first _ _ _ _ c.loop-hop.invariant
    c.in-Ok-Forward.hop (forwarded (goal.at.loop-hop-preserved c).In-Ok-Forward) c.hop_cost-spent.result
    (omega (arith, c.loop-hop.invariant.within, c.if-hops-limit.false)) c.hop_cost-spent.ensures.0 c.hop_cost-spent.ensures.1
