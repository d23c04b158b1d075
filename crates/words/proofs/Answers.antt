-- What an answer of the search tells: None, that every word looked at is 0; a place, that it is the first that is not.
use mathlib.Core.Path.{◌≡◌, refl, ap, subst, ◌∙◌}
use mathlib.Core.List.{List}
use Prim.Native.Nat.{ℕ, zero, suc, ◌+◌, ◌-◌, ◌≤◌, ◌<◌, min}
use native.Mathlib.Decide.{dec_lt, ℕ_discrete}
use native.Mathlib.Omega.{arith}
use lib.ListN.{length, get_or}
use lib.Seq.{take_all}
use Rattle.bits.specs.Bits.{lowest}
use Rattle.words.specs.declared.Found.{Found}
use Rattle.std.specs.Prelude.{Option, Some, None}
use Rattle.words.specs.Words.{found_at, first_set_from, first_in, first_between}
use Rattle.words.proofs.Search.{first_here, first_next, first_end, first_cut}

-- the words at from .. to - 1 are 0
abbrev pub Quiet : List ℕ → ℕ → ℕ → Type 0
Quiet ws from to = (k : ℕ) → from ≤ k → k < to → get_or ws k 0 ≡ 0

-- the word at the place is the first of from .. to - 1 that is not 0, and v is its lowest bit
pub record Here (ws : List ℕ) (from to place v : ℕ) : Type 0 where
  pub after : from ≤ place
  pub before : place < to
  pub inside : place < length ws
  pub waits : get_or ws place 0 ≡ 0 → ⊥
  pub lowest_bit : v ≡ lowest (get_or ws place 0)
  pub quiet : Quiet ws from place

-- what each answer says
abbrev pub Says : List ℕ → ℕ → ℕ → Option Found → Type 0
Says ws from to None = Quiet ws from to
Says ws from to (Some f) = Here ws from to f.word f.bit

ahead : (ws : List ℕ) (i to : ℕ) → get_or ws i 0 ≡ 0 → Quiet ws (i + 1) to → (k : ℕ) → i ≤ k → k < to → Dec (k ≡ i) → get_or ws k 0 ≡ 0
ahead ws i to z q k l h (yes e) = ap (λ (n : ℕ). get_or ws n 0) e ∙ z
ahead ws i to z q k l h (no ne) = q k (omega (arith, ne)) h

-- one word that is 0 in front changes nothing
earlier : (ws : List ℕ) (i to : ℕ) → get_or ws i 0 ≡ 0 → (f : Option Found) → Says ws (i + 1) to f → Says ws i to f
earlier ws i to z None q = λ k l h. ahead ws i to z q k l h (ℕ_discrete k i)
earlier ws i to z (Some f) q = record {
  after = omega (arith, q.after);
  before = q.before;
  inside = q.inside;
  waits = q.waits;
  lowest_bit = q.lowest_bit;
  quiet = λ k l h. ahead ws i f.word z q.quiet k l h (ℕ_discrete k i);
}

-- by the number n of words that are left to look at
walk : (ws : List ℕ) (to : ℕ) → to ≤ length ws → (n i : ℕ) → to ≤ i + n → Says ws i to (first_between i to ws)
walk ws to fits zero i h = rw (first_end ws i to (omega arith)) (λ k l m. absurd (omega arith))
walk ws to fits (suc n) i h = go (walk ws to fits n (i + 1) (omega arith)) (dec_lt i to) (ℕ_discrete (get_or ws i 0) 0)
  where
    go : Says ws (i + 1) to (first_between (i + 1) to ws) → Dec (i < to) → Dec (get_or ws i 0 ≡ 0) → Says ws i to (first_between i to ws)
    go rest (no l) d = rw (first_end ws i to (omega (arith, l))) (λ k m o. absurd (omega (arith, l)))
    go rest (yes l) (yes z) = rw (first_next ws i to l (omega arith) z) (earlier ws i to z (first_between (i + 1) to ws) rest)
    go rest (yes l) (no ne) = rw (first_here ws i to l (omega arith) ne) (record {
      after = omega arith;
      before = l;
      inside = omega arith;
      waits = ne;
      lowest_bit = refl;
      quiet = λ k m o. absurd (omega arith);
    })

-- the search's answer, whatever it is, says what is there among the words that the list has
pub first_says : (ws : List ℕ) (from to : ℕ) → Says ws from (min to (length ws)) (first_between from to ws)
first_says ws from to =
    subst (Says ws from (min to (length ws))) (first_cut ws from to) (walk ws (min to (length ws)) (omega arith) (min to (length ws)) from (omega arith))

pub first_nowhere : (ws : List ℕ) (from to : ℕ) → first_between from to ws ≡ None → Quiet ws from (min to (length ws))
first_nowhere ws from to e = subst (Says ws from (min to (length ws))) e (first_says ws from to)

pub first_at : (ws : List ℕ) (from to place v : ℕ) → first_between from to ws ≡ found_at place v → Here ws from (min to (length ws)) place v
first_at ws from to place v e = subst (Says ws from (min to (length ws))) e (first_says ws from to)

-- a search of the whole list
pub first_whole : (ws : List ℕ) → first_between 0 (length ws) ws ≡ first_in ws
unfolding first_between first_in
first_whole ws = ap (λ (xs : List ℕ). first_set_from 0 xs) (take_all (length ws - 0) ws (omega arith))
