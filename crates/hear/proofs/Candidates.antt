-- The candidates: the i-th one makes the heard stack of its stack, and whatever leads to the heard stack is the candidate of its turn.
use Prim.Native.Nat.{ℕ, zero, suc, ◌+◌, ◌-◌, ◌*◌, ◌/◌, ◌≤◌, ◌<◌}
use native.Mathlib.Nat.{mod-lt, zero-mod, mul-div-le, mul-le-mul_right}
use native.Mathlib.Decide.{dec_lt}
use native.Mathlib.Omega.{arith}
use mathlib.Core.Path.{◌≡◌, refl, sym, ap, ◌∙◌, subst}
use mathlib.Core.Logic.{by_cases}
use borrow.Author.Tests.{lt-ltb, le-ltb}
use Rattle.stacks.specs.Stacks.{top, rest}
use Rattle.functions.specs.Functions.{kind_of, from_of, to_of}
use Rattle.hear.specs.Hearing.{Gateway, Message, leader}
use Rattle.hear.specs.Steps.{candidate_of, candidate_function, Turn, Parted}
use Rattle.functions.specs.declared.Kind.{Kind}
use Rattle.functions.specs.Parts.{kind_at, kind_number}
use Rattle.functions.proofs.Parts.{kind_back}
use Rattle.hear.specs.declared.Candidate.{Candidate}
use Rattle.hear.proofs.Sources.{Source, led, moved_source, put_together}
use Rattle.hear.proofs.Leaders.{leader_found, leader_only}

-- the turn of a function among the candidates
abbrev pub turn_by : ℕ → ℕ → ℕ → ℕ → ℕ
turn_by p zero a b = a
turn_by p (suc zero) a b = p
turn_by p (suc (suc k)) a b = p + 1 + b

abbrev pub turn_of_function : ℕ → ℕ → ℕ
turn_of_function p f = turn_by p (kind_of f) (from_of f) (to_of f)

-- ---- the three kinds
module _ (p number i : ℕ) where
  pub converts : i < p → candidate_of p number i
      ≡ record { function = record { kind = Kind.Convert; a = i; b = top p number }; source = p * rest p number + i + 1 }
  unfolding candidate_of
  converts low = simp (lt-ltb i p low)

  pub wraps : p ≤ i → i ≤ p → candidate_of p number i
      ≡ record { function = record { kind = Kind.Wrap; a = top p (rest p number); b = top p number }; source = rest p number }
  unfolding candidate_of
  wraps low high = simp (le-ltb i p low, le-ltb p i high)

  pub unwraps : p < i → candidate_of p number i
      ≡ record { function = record { kind = Kind.Unwrap; a = top p number; b = i - p - 1 }; source = p * number + (i - p - 1) + 1 }
  unfolding candidate_of
  unwraps high = simp (le-ltb i p (omega arith), lt-ltb p i high)

  -- nothing is below the heard top
  pub wraps_none : p ≤ i → i ≤ p → rest p number < 1 → candidate_of p number i
      ≡ record { function = record { kind = Kind.Wrap; a = 0; b = top p number }; source = 0 }
  wraps_none low high none =
      let e : rest p number ≡ 0 = omega arith in
      wraps low high ∙ ap (λ (x : ℕ). record { function = record { kind = Kind.Wrap; a = top p x; b = top p number }; source = x }) e
      ∙ ap (λ (x : ℕ). record { function = record { kind = Kind.Wrap; a = x; b = top p number }; source = 0 }) (zero-mod p)

-- the same for whoever has the top and the rest at hand
module _ (p number tip under i : ℕ) (z : Parted p number tip under i) where
  pub converts_by : i < p → record { function = record { kind = Kind.Convert; a = i; b = tip }; source = p * under + i + 1 } ≡ candidate_of p number i
  converts_by low = sym (converts p number i low ∙ cc (z.tops, z.rests))

  pub unwraps_by : p < i → record { function = record { kind = Kind.Unwrap; a = tip; b = i - p - 1 }; source = p * number + (i - p - 1) + 1 }
      ≡ candidate_of p number i
  unwraps_by high = sym (unwraps p number i high ∙ cc z.tops)

  pub wraps_by : p ≤ i → i ≤ p → record { function = record { kind = Kind.Wrap; a = top p under; b = tip }; source = under } ≡ candidate_of p number i
  wraps_by low high = sym (wraps p number i low high ∙ cc (z.tops, z.rests))

  pub none_by : p ≤ i → i ≤ p → under < 1
      → record { function = record { kind = Kind.Wrap; a = 0; b = tip }; source = under } ≡ candidate_of p number i
  none_by low high none =
      let e : under ≡ 0 = omega arith in
      sym (wraps_none p number i low high (omega (arith, z.rests)) ∙ cc (z.tops, e))

-- the stack numbers fit
pub below_number : (p n under : ℕ) → under ≡ rest p n → p * under ≤ n
below_number p n under e = omega (arith, mul-div-le (n - 1) p, ap (λ (x : ℕ). p * x) e)

pub above_number : (p n : ℕ) → p ≤ 8 → p * n ≤ 8 * n
above_number p n few = mul-le-mul_right n few

pub past : (p i : ℕ) → p < i → 1 ≤ i - p
past p i h = omega arith

-- the i-th candidate, by its parts
pub record Candid (p number i : ℕ) (c : Candidate) : Type 0 where
  pub kinds : kind_number c.function.kind < 3
  pub firsts : c.function.a < p
  pub seconds : c.function.b < p
  pub turn : turn_by p (kind_number c.function.kind) c.function.a c.function.b ≡ i
  pub sourced : 1 ≤ c.source → Source p number (kind_number c.function.kind) c.function.a c.function.b c.source

pub candid : (p number i : ℕ) → 1 ≤ p → i ≤ 2 * p → Candid p number i (candidate_of p number i)
candid p number i some turn =
    by_cases (dec_lt i p)
    (λ low. subst (Candid p number i) (sym (converts p number i low))
    (record { kinds = omega arith; firsts = low; seconds = tip; turn = refl; sourced = λ n. (refl, refl) }))
    (λ o. by_cases (dec_lt p i)
    (λ high. subst (Candid p number i) (sym (unwraps p number i high))
    (record { kinds = omega arith; firsts = tip; seconds = omega arith; turn = omega arith; sourced = λ n. (refl, refl) }))
    (λ u. subst (Candid p number i) (sym (wraps p number i (omega arith) (omega arith)))
    (record { kinds = omega arith; firsts = mod-lt (rest p number - 1) some; seconds = tip; turn = omega arith; sourced = λ n. (refl, n, refl, refl) })))
  where
    tip : top p number < p
    tip = mod-lt (number - 1) some

-- what makes the heard stack is the candidate of its turn
pub in_turn : (p number k a b n : ℕ) → k < 3 → a < p → Source p number k a b n
    → candidate_of p number (turn_by p k a b) ≡ record { function = record { kind = kind_at k; a = a; b = b }; source = n }
in_turn p number zero a b n low small s = converts p number a small ∙ (cc)
in_turn p number (suc zero) a b n low small s = wraps p number p (omega arith) (omega arith) ∙ (cc)
in_turn p number (suc (suc k)) a b n low small s =
    let d : p + 1 + b - p - 1 ≡ b = omega arith in
    unwraps p number (p + 1 + b) (omega arith) ∙ (cc)

pub turn_low : (p k a b : ℕ) → 1 ≤ p → a < p → b < p → turn_by p k a b < 2 * p + 1
turn_low p zero a b some small low = omega arith
turn_low p (suc zero) a b some small low = omega arith
turn_low p (suc (suc k)) a b some small low = omega arith

-- ---- a function's number and its parts
pub record Digits (f k a b : ℕ) : Type 0 where
  pub kind : kind_of f ≡ k
  pub from : from_of f ≡ a
  pub to : to_of f ≡ b

pub digits : (k a b : ℕ) → a < 8 → b < 8 → Digits (64 * k + 8 * a + b) k a b
digits k a b ha hb =
    let d : (64 * k + 8 * a + b) / 8 ≡ 8 * k + a = omega arith in
    record { kind = omega arith; from = omega arith; to = omega arith }

-- ---- the leaders among the candidates
module _ (g : Gateway) (m : Message) (i : ℕ) (z : Turn g.p m.number i) (within : m.number ≤ g.most) (bounded : g.most ≤ 16384) where
  abbrev here : Candidate
  here = candidate_of g.p m.number i

  parts : Candid g.p m.number i here
  parts = candid g.p m.number i z.some z.turn

  functions : Digits (candidate_function here) (kind_number here.function.kind) here.function.a here.function.b
  functions = digits (kind_number here.function.kind) here.function.a here.function.b (omega (arith, parts.firsts, z.few)) (omega (arith, parts.seconds, z.few))

  pub function_low : candidate_function here < 192
  function_low = omega (arith, parts.kinds, parts.firsts, parts.seconds, z.few)

  pub function_turn : turn_of_function g.p (candidate_function here) ≡ i
  function_turn = simp (functions.kind, functions.from, functions.to) parts.turn

  -- of the functions that lead to the heard stack only this one is in turn, from its stack alone
  pub only : (x : ℕ) → leader g m x < 192 → turn_of_function g.p (leader g m x) ≡ i → (leader g m x ≡ candidate_function here) × (x ≡ here.source)
  only x low e =
      let l = led g.p g.most (leader g m x) x m.number (leader_found g m x low).makes in
      let f = leader g m x in
      let q = sym (in_turn g.p m.number (kind_of f) (from_of f) (to_of f) x (omega arith) l.moves.parts.from l.from_source) ∙ ap (candidate_of g.p m.number)
      e in (
        put_together f ∙ ap (λ (k : ℕ). 64 * k + 8 * from_of f + to_of f) (sym (kind_back (kind_of f) (omega arith))) ∙ ap candidate_function q,
        ap (λ (y : Candidate). y.source) q,
      )

  pub leads : 0 < g.words (candidate_function here) → 1 ≤ here.source → here.source ≤ g.most → leader g m here.source ≡ candidate_function here
  leads has some low =
      leader_only g m here.source (candidate_function here) function_low
      (record {
        has = has;
        makes = moved_source g.p g.most (candidate_function here) here.source m.number z.some z.few bounded function_low
            (omega (arith, functions.from, parts.firsts)) (omega (arith, functions.to, parts.seconds)) some low z.numbered within
            (simp (functions.kind, functions.from, functions.to) (parts.sourced some));
      })
