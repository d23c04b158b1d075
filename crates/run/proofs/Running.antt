-- A run, turn by turn: what is done and what is left are the run from the start.
use Prim.Native.Nat.{ℕ, suc, ◌+◌, ◌-◌, ◌<◌, ◌≤◌}
use native.Mathlib.Omega.{arith}
use mathlib.Core.Path.{◌≡◌, refl, ap, ◌∙◌}
use mathlib.Core.Bool.{Bool, true, false, cond}
use lib.Dec.{eqb}
use Rattle.words.specs.Words.{first_in}
use Rattle.words.specs.declared.Found.{Found}
use Rattle.network.specs.Network.{Network}
use Rattle.table.specs.Table.{Table, node_at, destination_at, number_at, delivered, offers_taken}
use Rattle.table.specs.Answers.{message_refusal}
use Rattle.table.specs.Run.{RunOutcome, one_more, ends, turn, steps}
use Rattle.std.specs.Prelude.{Ok, Err, Option, Some, None}
use Rattle.refusal.specs.declared.Refusal.{Refusal}
use Rattle.refusal.specs.Numbers.{named, refused_with}
use Rattle.step.specs.InNetwork.{step_table}
use Rattle.run.specs.Turns.{Turn, turn_of, turn_at, table_at, turn_answer, turn_table, continued}

-- two outcomes are equal by their parts
outcome : (a b : RunOutcome) → a.done ≡ b.done → a.offers ≡ b.offers → a.refused ≡ b.refused → a.table ≡ b.table → a ≡ b
outcome a b d o r t = λ i. record { done = d i; offers = o i; refused = r i; table = t i }

-- what a turn answers that ends the run: the refusal, None where no message waits
abbrev pub ended : Option Refusal → Turn
ended None = Ok None
ended (Some r) = Err r

-- the refusal of the message that is found, the offers that its delivery makes, and the table after it
module _ (net : Network) (t : Table) (f : Found) where
  abbrev pub refused : ℕ
  refused = message_refusal net t (node_at net f.word) f.bit (destination_at net f.word) (number_at net f.word)

  abbrev pub offers : ℕ
  offers = offers_taken net t (node_at net f.word) f.bit (destination_at net f.word) (number_at net f.word)

  abbrev pub changed : Table
  changed = delivered net t (node_at net f.word) f.bit (destination_at net f.word) (number_at net f.word)

module _ (net : Network) (t : Table) (rest : Table → RunOutcome) where
  -- the step of a turn, where it is refused and where not
  module _ (f : Found) where
    step_offers : (b : Bool) (o : ℕ) → turn_of (cond b (Ok (offers net t f)) (Err (named (refused net t f)))) ≡ Ok (Some o)
        → cond b (one_more (offers net t f) (rest (changed net t f))) (ends (refused net t f) t) ≡ one_more o (rest (cond b (changed net t f) t))
    step_offers true o d = let q : offers net t f ≡ o = cc in ap (λ (x : ℕ). one_more x (rest (changed net t f))) q
    step_offers false o d = absurd (let z : ◌≡◌ {A = ℕ} 0 1 = cc in omega arith)

    step_ends : (b : Bool) (r : Option Refusal) → eqb (refused net t f) 0 ≡ b
        → turn_of (cond b (Ok (offers net t f)) (Err (named (refused net t f)))) ≡ ended r
        → (cond b (one_more (offers net t f) (rest (changed net t f))) (ends (refused net t f) t) ≡ ends (refused net t f) t)
        × (cond b (changed net t f) t ≡ t) × (r ≡ refused_with (refused net t f))
    step_ends true None z d = absurd (let o : ◌≡◌ {A = ℕ} 0 1 = cc in omega arith)
    step_ends true (Some r) z d = absurd (let o : ◌≡◌ {A = ℕ} 0 1 = cc in omega arith)
    step_ends false None z d = absurd (let o : ◌≡◌ {A = ℕ} 0 1 = cc in omega arith)
    step_ends false (Some r) z d = let q : r ≡ named (refused net t f) = cc in (refl, refl, simp z (ap Some q))

  offers_at : (f : Option Found) (o : ℕ) → turn_at net t f ≡ Ok (Some o) → turn net rest t f ≡ one_more o (rest (table_at net t f))
  unfolding step_table
  offers_at None o e = absurd (let z : ◌≡◌ {A = ℕ} 0 1 = cc in omega arith)
  offers_at (Some f) o e = step_offers f (eqb (refused net t f) 0) o e

  ends_at : (f : Option Found) (r : Option Refusal) → turn_at net t f ≡ ended r
      → (k : ℕ) × (turn net rest t f ≡ ends k t) × (table_at net t f ≡ t) × (r ≡ refused_with k)
  unfolding step_table
  ends_at None None e = (0, refl, refl, refl)
  ends_at None (Some r) e = absurd (let z : ◌≡◌ {A = ℕ} 0 1 = cc in omega arith)
  ends_at (Some f) r e = let a = step_ends f (eqb (refused net t f) 0) r refl e in (refused net t f, a.0, a.1, a.2)

-- ---- what a loop over the turns keeps: done deliveries, their offers and the run that is left make the whole run
module _ (net : Network) (k : ℕ) (t₀ : Table) where
  pub record Going (d o : ℕ) (t : Table) : Type 0 where
    pub whole : steps net k t₀ ≡ continued d o (steps net (k - d) t)

  pub starts : Going 0 0 t₀
  starts =
      let all : k ≡ k - 0 = omega arith in
      let same : steps net k t₀ ≡ steps net (k - 0) t₀ = ap (λ (m : ℕ). steps net m t₀) all in
      record {
        whole = same ∙ outcome (steps net (k - 0) t₀) (continued 0 0 (steps net (k - 0) t₀)) (omega arith) (omega arith) refl refl;
      }

  more_left : (d : ℕ) → d < k → k - d ≡ suc (k - (d + 1))
  more_left d low = omega arith

  pub goes_on : (d o x : ℕ) (t : Table) → d < k → Going d o t → turn_answer net t ≡ Ok (Some x) → Going (d + 1) (o + x) (turn_table net t)
  goes_on d o x t low g e = record {
    whole =
        g.whole
        ∙ ap (continued d o) (ap (λ (m : ℕ). steps net m t) (more_left d low) ∙ offers_at net t (steps net (k - (d + 1))) (first_in t.waiting) x e)
        ∙ outcome _ _ (omega arith) (omega arith) refl refl;
  }

  pub stops : (d o : ℕ) (r : Option Refusal) (t : Table) → d < k → Going d o t → turn_answer net t ≡ ended r
      → (j : ℕ) × (steps net k t₀ ≡ continued d o (ends j t)) × (turn_table net t ≡ t) × (r ≡ refused_with j)
  stops d o r t low g e =
      let a = ends_at net t (steps net (k - (d + 1))) (first_in t.waiting) r e in
      (a.0, g.whole ∙ ap (continued d o) (ap (λ (m : ℕ). steps net m t) (more_left d low) ∙ a.1), a.2, a.3)

  pub all_done : (d o : ℕ) (t : Table) → k ≤ d → Going d o t → steps net k t₀ ≡ continued d o (ends 0 t)
  all_done d o t high g = g.whole ∙ ap (continued d o) (ap (λ (m : ℕ). steps net m t) (let z : k - d ≡ 0 = omega arith in z))
