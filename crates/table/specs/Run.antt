-- Run: "first waiting, then deliver, until quiet or k are done; answers the number done".
use Rattle.std.specs.Prelude.{ℕ, zero, suc, ◌+◌, ◌≡◌, cond, eqb, Option, Some, None}
use Rattle.refusal.specs.declared.Refusal.{Refusal}
use Rattle.refusal.specs.Numbers.{refused_with}
use Rattle.words.specs.Words.{first_in}
use Rattle.words.specs.declared.Found.{Found}
use Rattle.network.specs.Network.{Network}
use Rattle.table.specs.Table.{Table, node_at, destination_at, number_at, delivered, offers_taken}
use Rattle.table.specs.Answers.{refusal, message_refusal}
use Rattle.table.specs.declared.Ran.{Ran}

-- deliveries done, offers that rows took, the refusal that ended the run or 0, and the table then
pub record RunOutcome : Type 0 where
  pub done : ℕ
  pub offers : ℕ
  pub refused : ℕ
  pub table : Table

-- what a run answers and leaves is this outcome
pub record Runs (o : RunOutcome) (answer : Ran Refusal) (after : Table) : Type 0 where
  pub done : answer.done ≡ o.done
  pub offers : answer.offers ≡ o.offers
  pub refused : answer.refused ≡ refused_with o.refused
  pub table : after ≡ o.table

-- one delivery more in front of a run
abbrev pub one_more : ℕ → RunOutcome → RunOutcome
one_more offers o = record { done = suc o.done; offers = offers + o.offers; refused = o.refused; table = o.table }

-- a run that ends here
abbrev pub ends : ℕ → Table → RunOutcome
ends refused t = record { done = 0; offers = 0; refused = refused; table = t }

module _ (net : Network) where
  -- One delivery of a run, with `rest` for the turns that are left: "where a broken table makes a delivery refuse, run returns that number with
  -- the count of deliveries it made, keeps those, and the refused one changes nothing".
  abbrev pub delivering : (Table → RunOutcome) → Table → ℕ → ℕ → ℕ → ℕ → RunOutcome
  delivering rest t Q U D N =
      cond (eqb (message_refusal net t Q U D N) 0) (one_more (offers_taken net t Q U D N) (rest (delivered net t Q U D N)))
      (ends (message_refusal net t Q U D N) t)

  -- one turn at what the search found
  abbrev pub turn : (Table → RunOutcome) → Table → Option Found → RunOutcome
  turn rest t None = ends 0 t
  turn rest t (Some f) = delivering rest t (node_at net f.word) f.bit (destination_at net f.word) (number_at net f.word)

  -- so many turns
  abbrev pub steps : ℕ → Table → RunOutcome
  steps zero t = ends 0 t
  steps (suc k) t = turn (steps k) t (first_in t.waiting)

  -- run, for every input
  unfoldable pub run_of : ℕ → Table → RunOutcome
  run_of k t = cond (eqb (refusal net t) 0) (steps k t) (ends (refusal net t) t)
