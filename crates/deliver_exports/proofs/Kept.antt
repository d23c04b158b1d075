-- Deliver and run: what the C caller reads back is the call's whole answer.
use Prim.Native.Nat.{ℕ, ◌≤◌}
use native.Mathlib.Omega.{arith}
use mathlib.Core.Path.{◌≡◌}
use mathlib.Core.List.{List, [], ◌∷◌}
use lib.ListN.{length}
use borrow.Author.Tests.{le-leb}
use Rattle.network.specs.Network.{Network}
use Rattle.table.specs.Table.{Table}
use Rattle.table.specs.Answers.{deliver_answer}
use Rattle.table.specs.Run.{run_of}
use Rattle.packing.proofs.Unpacked.{end_back}
use Rattle.deliver_exports.specs.Packing.{pack_delivered, unpack_delivered}
use Rattle.deliver_exports.specs.Run.{run_packed, run_table, run_numbers, unpack_run}
use Rattle.deliver_exports.proofs.Answered.{deliver_fits, run_few}
use Rattle.deliver_exports.proofs.Unpacked.{delivered_back}

module _ (net : Network) (t : Table) where
  pub deliver_kept : (Q U D N : ℕ) → unpack_delivered (pack_delivered (deliver_answer net t Q U D N)) ≡ deliver_answer net t Q U D N
  deliver_kept Q U D N = delivered_back (deliver_answer net t Q U D N) (deliver_fits net t Q U D N)

  -- from the answer, a slice that has room for the numbers, and the table
  pub run_kept : (k : ℕ) (answer : List ℕ) → 2 ≤ length answer → unpack_run (run_packed net k t answer) (run_numbers net k t answer)
      (run_table net k t answer) ≡ run_of net k t
  unfolding unpack_run run_packed run_numbers run_table
  run_kept k [] long = absurd (omega arith)
  run_kept k (x ∷ []) long = absurd (omega arith)
  run_kept k (x ∷ y ∷ rest) long = simp (le-leb 2 (length (x ∷ y ∷ rest)) long, end_back (run_of net k t).refused (omega (arith, run_few net k t)))
