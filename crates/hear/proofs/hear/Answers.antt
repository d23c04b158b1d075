-- `hear::hear` meets its contract: a refusal, or the loop, whose invariant is that the first i candidates have made their offers.
use mathlib.Core.Path.{refl}
use native.Mathlib.Omega.{arith}
use Rattle.hear.specs.Answers.{rows_of}
use Rattle.hear.specs.Handed.{gateway_seen, message_seen}
use Rattle.hear.specs.Steps.{Turn}
use Rattle.std.proofs.Common.{rules, ◌≡◌, Err, Some, None}
use Rattle.refusal.proofs.Answers.{answered_ok, answered_err}
use Rattle.hear.proofs.Answers.{refused, refuses}
use Rattle.hear.proofs.Loop.{Heeds, starts, ends, its_turn, Offers, near_4, inside, stays, gains, Small, small, offered, passes_by}
use Rattle.hear.proofs.hear.Goals as goal
use Rattle.hear.proofs.hear.Goals.{After-candidate_of-candidate, In-Some, In_ok-tested, In-loop-i, then-offer-costs, else-offer-costs}

-- the candidate in turn, and its offer
turned : (c : In-loop-i) → let a = c.args in Turn a.gateway.p a.message.number c.loop-i.i
turned c = its_turn _ _ _ _ _ _ c.loop-i.invariant (omega arith)

parts : (c : After-candidate_of-candidate) → Small c.candidate_of-candidate.result
parts c =
    let a = c.args in
    small a.gateway.p a.message.number c.loop-i.i c.candidate_of-candidate.result (turned c.before) c.candidate_of-candidate.ensures

offers : (c : In-Some) → let a = c.args in let l = c.loop-i in
    Offers (gateway_seen a.gateway) (message_seen a.message)
    (rows_of a.costs.now a.ways.now a.waiting.now) (rows_of l.costs l.ways l.waiting) l.i l.count c.in-Some.offer
offers c =
    let l = c.loop-i in
    let a = c.args in
    let m = message_seen a.message in
    record {
      heeds = l.invariant;
      low = omega arith;
      is = offered (gateway_seen a.gateway) m l.i c.word-word.result c.candidate_of-candidate.result (Some c.in-Some.offer)
          c.candidate_of-candidate.ensures c.word-word.ensures c.in-Some.ensures;
    }

pub returns-in_err-tested : goal.returns-in_err-tested
returns-in_err-tested c =
    let a = c.args in
    let g = gateway_seen a.gateway in
    let m = message_seen a.message in
    let q = rows_of a.costs.now a.ways.now a.waiting.now in
    let off = answered_err (refused g m q) tt _ c.in_err-tested.ensures in
    let same : c.from_residual.result ≡ Err c.in_err-tested.field-0.0 = search rules in
    rw (same, off.1) (refuses g m q off.0)

-- nothing is refused
begins : (c : In_ok-tested) → let a = c.args in let q = rows_of a.costs.now a.ways.now a.waiting.now in
    Heeds (gateway_seen a.gateway) (message_seen a.message) q q 0 0
begins c =
    let a = c.args in
    starts _ _ _ (answered_ok (refused (gateway_seen a.gateway) (message_seen a.message)
    (rows_of a.costs.now a.ways.now a.waiting.now)) tt tt c.in_ok-tested.ensures).0

pub overflow_sub-top : goal.overflow_sub-top
overflow_sub-top c = (begins (goal.at.overflow_sub-top c).In_ok-tested).passes.numbers_good.numbered

pub nonzero_rem-top : goal.nonzero_rem-top
nonzero_rem-top c = (begins (goal.at.nonzero_rem-top c).In_ok-tested).passes.numbers_good.some

pub overflow_sub-rest : goal.overflow_sub-rest
overflow_sub-rest c = (begins (goal.at.overflow_sub-rest c).In_ok-tested).passes.numbers_good.numbered

pub nonzero_div-rest : goal.nonzero_div-rest
nonzero_div-rest c = (begins (goal.at.nonzero_div-rest c).In_ok-tested).passes.numbers_good.some

pub loop-i-init : goal.loop-i-init
loop-i-init c = begins (goal.at.loop-i-init c).In_ok-tested

pub overflow_mul-i-end : goal.overflow_mul-i-end
overflow_mul-i-end c = omega (arith, (begins (goal.at.overflow_mul-i-end c).In_ok-tested).passes.numbers_good.few)

pub overflow_add-i-end : goal.overflow_add-i-end
overflow_add-i-end c = omega (arith, (begins (goal.at.overflow_add-i-end c).In_ok-tested).passes.numbers_good.few)

pub candidate_of-candidate-requires : goal.candidate_of-candidate-requires
candidate_of-candidate-requires c = record { turns = turned (goal.at.candidate_of-candidate-requires c).In-loop-i; tops = refl; rests = refl }

pub word-word-requires : goal.word-word-requires
word-word-requires c =
    let d = parts (goal.at.word-word-requires c).After-candidate_of-candidate in
    (d.firsts, d.seconds)

pub offer_of-requires : goal.offer_of-requires
offer_of-requires c =
    let d = parts (goal.at.offer_of-requires c).After-candidate_of-candidate in
    let h = c.loop-i.invariant.passes in
    record {
      bounded = h.numbers_good.bounded;
      sends = h.numbers_good.sends;
      known = h.numbers_good.known;
      priced = h.lengths_good.priced;
      firsts = d.firsts;
      seconds = d.seconds;
    }

pub offset_bounds-costs-place : goal.offset_bounds-costs-place
offset_bounds-costs-place c = near_4 (offers (goal.at.offset_bounds-costs-place c).In-Some)

pub bounds-costs-place : goal.bounds-costs-place
bounds-costs-place c = inside (offers (goal.at.bounds-costs-place c).In-Some)

pub loop-i-preserved-in_default : goal.loop-i-preserved-in_default
loop-i-preserved-in_default c =
    let a = c.args in
    let none = offered (gateway_seen a.gateway) (message_seen a.message) c.loop-i.i c.word-word.result c.candidate_of-candidate.result None
    c.candidate_of-candidate.ensures c.word-word.ensures c.in_default.ensures in
    passes_by _ _ _ _ _ _ c.loop-i.invariant (omega arith) none

pub loop-i-preserved : goal.loop-i-preserved
loop-i-preserved c =
    let q = offers (goal.at.loop-i-preserved c).In-Some in
    elim c.if-offer-costs.branch [
      | then-offer-costs w ↦ rw (w.costs-is, w.ways-is, w.waiting-is, w.count-is)
          (gains q w.with_all.result w.with_all.ensures (omega arith))
      | else-offer-costs w ↦ rw (w.costs-is, w.ways-is, w.waiting-is, w.count-is) (stays q (omega arith))
    ]

pub returns : goal.returns
returns c = ends _ _ _ _ _ _ c.loop-i.invariant (omega arith)
