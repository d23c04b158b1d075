-- `hear::offer_of` meets its contract: no offer, or the one that its candidate makes.
use native.Mathlib.Omega.{arith}
use mathlib.Core.Path.{refl}
use Rattle.functions.specs.Parts.{kind_number}
use Rattle.hear.proofs.Offers.{Makes, makes, none, made, OfferFits, offer_fits}
use Rattle.hear.proofs.offer_of.Goals as goal
use Rattle.hear.proofs.offer_of.Goals.{Else-not-word-candidate, After-from}

-- what the test says where it lets the candidate through
passes : (c : Else-not-word-candidate) → let a = c.args in Makes a.most a.word a.candidate
passes c = let a = c.args in makes a.most a.word a.candidate c.if-not-word-candidate.false

pub returns-then-not-word-candidate : goal.returns-then-not-word-candidate
returns-then-not-word-candidate c =
    let a = c.args in
    none a.most a.word a.candidate a.message.sender a.message.destination a.message.cost a.message.link c.if-not-word-candidate.true

pub returns : goal.returns
returns c =
    let a = c.args in
    made a.most a.word a.candidate a.message.sender a.message.destination a.message.cost a.message.link c.from.result c.from.ensures
    c.if-not-word-candidate.false

-- no number wraps
early : (c : Else-not-word-candidate) → let a = c.args in
    OfferFits a.most a.message.sender a.message.destination a.message.cost a.message.link a.word (kind_number a.candidate.function.kind) a.candidate
early c = offer_fits _ _ _ _ _ _ _ _ c.requires (omega arith) c.ranges.word refl

fits : (c : After-from) → let a = c.args in
    OfferFits a.most a.message.sender a.message.destination a.message.cost a.message.link a.word c.from.result a.candidate
fits c = offer_fits _ _ _ _ _ _ _ _ c.requires (omega arith) c.ranges.word c.from.ensures

pub overflow_sub-price : goal.overflow_sub-price
overflow_sub-price c = (passes (goal.at.overflow_sub-price c).Else-not-word-candidate).has

pub overflow_mul-result : goal.overflow_mul-result
overflow_mul-result c = (early (goal.at.overflow_mul-result c).Else-not-word-candidate).rows

pub overflow_sub-result : goal.overflow_sub-result
overflow_sub-result c = (passes (goal.at.overflow_sub-result c).Else-not-word-candidate).some

pub overflow_add-result : goal.overflow_add-result
overflow_add-result c = (early (goal.at.overflow_add-result c).Else-not-word-candidate).place
    (passes (goal.at.overflow_add-result c).Else-not-word-candidate).low

pub overflow_add-result-2 : goal.overflow_add-result-2
overflow_add-result-2 c = (early (goal.at.overflow_add-result-2 c).Else-not-word-candidate).linked

pub overflow_add-result-3 : goal.overflow_add-result-3
overflow_add-result-3 c = (early (goal.at.overflow_add-result-3 c).Else-not-word-candidate).costs

pub overflow_mul-result-2 : goal.overflow_mul-result-2
overflow_mul-result-2 c = (early (goal.at.overflow_mul-result-2 c).Else-not-word-candidate).sent

pub overflow_mul-result-3 : goal.overflow_mul-result-3
overflow_mul-result-3 c = (fits (goal.at.overflow_mul-result-3 c).After-from).kind

pub overflow_add-result-4 : goal.overflow_add-result-4
overflow_add-result-4 c = (fits (goal.at.overflow_add-result-4 c).After-from).kinds

pub overflow_mul-result-4 : goal.overflow_mul-result-4
overflow_mul-result-4 c = (fits (goal.at.overflow_mul-result-4 c).After-from).first

pub overflow_add-result-5 : goal.overflow_add-result-5
overflow_add-result-5 c = (fits (goal.at.overflow_add-result-5 c).After-from).firsts

pub overflow_add-result-6 : goal.overflow_add-result-6
overflow_add-result-6 c = (fits (goal.at.overflow_add-result-6 c).After-from).seconds

pub overflow_cast-result-2 : goal.overflow_cast-result-2
overflow_cast-result-2 c = (fits (goal.at.overflow_cast-result-2 c).After-from).way
