-- What private functions answer on the way; no public contract cites it.
use Rattle.std.specs.Prelude.{ℕ, ◌*◌, ◌+◌, ◌≡◌, ◌≤◌, Result}
use Rattle.refusal.specs.declared.Refusal.{Refusal}
use Rattle.refusal.specs.Numbers.{answered}
use Rattle.hear.specs.Hearing.{Gateway, Message}
use Rattle.hear.specs.Answers.{hear_answer, rows_after}
use Rattle.table.specs.Table.{Table, place_in, cost_in, rows_in, with_rows_in}
use Rattle.step.specs.Step.{refusal_in}
use Rattle.step.specs.declared.Told.{Told}

-- read_row: where the row stands and what it costs, or the refusal
abbrev pub told_of : (n p s back : ℕ) (t : Table) (Q U D N : ℕ) → Result Told Refusal
told_of n p s back t Q U D N =
    answered (refusal_in n p s back t Q U D N) (record { place = place_in n s Q D N; cost = cost_in n s t Q D N })

-- receive: the rows of gateway U, of which each gateway has `each`, are in the three slices
pub record HasPart (each U costs ways waits : ℕ) : Type 0 where
  pub few : U * each + each ≤ 16777216
  pub costs_end : U * each + each ≤ costs
  pub ways_end : U * each + each ≤ ways
  pub waits_end : U * each + each ≤ waits

-- it hears the message with these rows, and no other row changes
pub record Received (each U : ℕ) (g : Gateway) (m : Message) (t : Table) (answer : Result ℕ Refusal) (after : Table) : Type 0 where
  pub answers : answer ≡ hear_answer g m (rows_in each U t)
  pub table : after ≡ with_rows_in each U t (rows_after g m (rows_in each U t))
