-- What the private functions answer, and what they may count on.
use Rattle.std.specs.Prelude.{ℕ, ◌+◌, ◌-◌, ◌*◌, ◌≤◌, ◌<◌, ◌≡◌, cond, ◌&&◌, ltb, Option, Some, None}
use Rattle.stacks.specs.Stacks.{one_to, top, rest}
use Rattle.hear.specs.Answers.{ceiling}
use Rattle.functions.specs.declared.Kind.{Kind}
use Rattle.functions.specs.declared.Function.{Function}
use Rattle.functions.specs.Parts.{kind_number}
use Rattle.hear.specs.declared.Candidate.{Candidate}
use Rattle.hear.specs.declared.Offer.{Offer}

-- ---- the candidates
-- the functions that can make the heard stack, by their numbers: a convert of each protocol, the wrap, an unwrap from each protocol
unfoldable pub candidate_of : ℕ → ℕ → ℕ → Candidate
candidate_of p number i =
    cond (ltb i p) (record { function = record { kind = Kind.Convert; a = i; b = top p number }; source = p * rest p number + i + 1 })
    (cond (ltb p i) (record { function = record { kind = Kind.Unwrap; a = top p number; b = i - p - 1 }; source = p * number + (i - p - 1) + 1 })
    (record { function = record { kind = Kind.Wrap; a = top p (rest p number); b = top p number }; source = rest p number }))

-- "A function's number is 64 x kind + 8a + b"
abbrev pub function_number : Function → ℕ
function_number f = 64 * kind_number f.kind + 8 * f.a + f.b

abbrev pub candidate_function : Candidate → ℕ
candidate_function candidate = function_number candidate.function

-- ---- one offer
-- where the row of a destination and a stack number stands
abbrev pub place_of : ℕ → ℕ → ℕ → ℕ
place_of most destination n = destination * most + (n - 1)

-- what a candidate with this word offers to its row; nothing where the gateway can't or there is no such row
unfoldable pub offer_of : ℕ → ℕ → ℕ → ℕ → ℕ → ℕ → Candidate → Option Offer
offer_of most sender destination cost link word candidate =
    cond (ltb 0 word && one_to most candidate.source)
    (Some (record { place = place_of most destination candidate.source; cost = cost + link + (word - 1); way = 256 * sender + candidate_function candidate }))
    None

-- ---- what the private functions may count on
-- a heard number, and a candidate's turn
pub record Turn (p number i : ℕ) : Type 0 where
  pub some : 1 ≤ p
  pub few : p ≤ 8
  pub numbered : 1 ≤ number
  pub bounded : number ≤ 16384
  pub turn : i ≤ 2 * p

-- the same with the top and the rest of the heard number, parted once for all turns
pub record Parted (p number tip under i : ℕ) : Type 0 where
  pub turns : Turn p number i
  pub tops : tip ≡ top p number
  pub rests : under ≡ rest p number

-- numbers small enough for the offer to fit
pub record Priced (most sender destination cost : ℕ) (candidate : Candidate) : Type 0 where
  pub bounded : most ≤ 16384
  pub sends : sender < 32
  pub known : destination < 32
  pub priced : cost ≤ ceiling
  pub firsts : candidate.function.a < 8
  pub seconds : candidate.function.b < 8
