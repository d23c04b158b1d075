-- What a run leaves and answers for a C caller, who lends a slice for the two numbers; a slice too short is refusal 9, and nothing is done.
use Rattle.std.specs.Prelude.{ℕ, ◌≡◌, List, Bool, cond, length, get_or, set, leb}
use Rattle.network.specs.Network.{Network}
use Rattle.table.specs.Table.{Table}
use Rattle.table.specs.Run.{RunOutcome, run_of}
use Rattle.packing.specs.Packing.{pack_refused, pack_end, end_in}

module _ (net : Network) (limit : ℕ) (t : Table) (answer : List ℕ) where
  abbrev pub ok_room : Bool
  ok_room = leb 2 (length answer)

  unfoldable pub run_packed : ℕ
  run_packed = cond ok_room (pack_end (run_of net limit t).refused) (pack_refused 9)

  unfoldable pub run_table : Table
  run_table = cond ok_room (run_of net limit t).table t

  -- answer[0] is the deliveries done, answer[1] the rows that took an offer; what stands behind them stays
  unfoldable pub run_numbers : List ℕ
  run_numbers = cond ok_room (set (set answer 0 (run_of net limit t).done) 1 (run_of net limit t).offers) answer

-- the whole of it
pub record RunExported (net : Network) (limit : ℕ) (t : Table) (answer : List ℕ) (r : ℕ) (after : Table) (numbers : List ℕ) : Type 0 where
  pub answers : r ≡ run_packed net limit t answer
  pub table : after ≡ run_table net limit t answer
  pub written : numbers ≡ run_numbers net limit t answer

-- an outcome as a C caller reads it back from the answer, the two numbers and the table, where the slice had room for them
unfoldable pub unpack_run : ℕ → List ℕ → Table → RunOutcome
unpack_run r numbers after = record { done = get_or numbers 0 0; offers = get_or numbers 1 0; refused = end_in r; table = after }
