-- What the exported run answers and leaves, from what the run answers.
use Prim.Native.Nat.{ℕ, ◌≤◌, ◌<◌}
use mathlib.Core.Path.{◌≡◌, ap, ap₂, ◌∙◌}
use mathlib.Core.List.{List}
use lib.ListN.{length, set}
use borrow.Author.Tests.{le-leb, lt-leb}
use native.Mathlib.Omega.{arith}
use Rattle.std.specs.Prelude.{Option}
use Rattle.refusal.specs.declared.Refusal.{Refusal}
use Rattle.refusal.specs.Numbers.{number_or_none}
use Rattle.refusal.proofs.Named.{few_kept}
use Rattle.network.specs.Network.{Network}
use Rattle.table.specs.Table.{Table}
use Rattle.table.specs.Run.{Runs, run_of}
use Rattle.table.specs.declared.Ran.{Ran}
use Rattle.packing.specs.Packing.{pack_refused, pack_end}
use Rattle.deliver_exports.proofs.Answered.{run_few}
use Rattle.deliver_exports.specs.Run.{run_packed, run_table, run_numbers, RunExported}

module _ (net : Network) (limit : ℕ) (t : Table) (answer : List ℕ) where
  pub no_room : (r : ℕ) → length answer < 2 → r ≡ pack_refused 9 → RunExported net limit t answer r t answer
  unfolding run_packed run_table run_numbers
  no_room r short e = record {
    answers = e ∙ simp (lt-leb 2 (length answer) short);
    table = simp (lt-leb 2 (length answer) short);
    written = simp (lt-leb 2 (length answer) short);
  }

  -- d is the number of deliveries as it is written, and `left` the table in the caller's own slices
  pub has_run : (r d : ℕ) (ran : Ran Refusal) (after left : Table) → left ≡ after → d ≡ ran.done → 2 ≤ length answer → Runs (run_of net limit t) ran after
      → r ≡ pack_end (number_or_none ran.refused) → RunExported net limit t answer r left (set (set answer 0 d) 1 ran.offers)
  unfolding run_packed run_table run_numbers
  has_run r d ran after left kept done long runs e = record {
    answers =
        e ∙ ap (λ (o : Option Refusal). pack_end (number_or_none o)) runs.refused
        ∙ ap pack_end (few_kept (run_of net limit t).refused (omega (arith, run_few net limit t)))
        ∙ simp (le-leb 2 (length answer) long);
    table = kept ∙ runs.table ∙ simp (le-leb 2 (length answer) long);
    written = ap₂ (λ (x o : ℕ). set (set answer 0 x) 1 o) (done ∙ runs.done) runs.offers ∙ simp (le-leb 2 (length answer) long);
  }
