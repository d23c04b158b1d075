-- Fresh, count and first waiting: what the C caller reads back is the call's whole answer.
use mathlib.Core.Path.{◌≡◌}
use Rattle.network.specs.Network.{Network}
use Rattle.table.specs.Table.{Table}
use Rattle.table.specs.Answers.{fresh_answer, count_answer, first_answer}
use Rattle.table_exports.specs.Packing.{pack_counted, pack_first, unpack_counted, unpack_first}
use Rattle.table_exports.proofs.Answered.{fresh_fits, count_fits, first_fits}
use Rattle.table_exports.proofs.Unpacked.{counted_back, first_back}

module _ (net : Network) (t : Table) where
  pub fresh_kept : unpack_counted (pack_counted (fresh_answer net t)) ≡ fresh_answer net t
  fresh_kept = counted_back (fresh_answer net t) (fresh_fits net t)

  pub count_kept : unpack_counted (pack_counted (count_answer net t)) ≡ count_answer net t
  count_kept = counted_back (count_answer net t) (count_fits net t)

  pub first_kept : unpack_first (pack_first (first_answer net t)) ≡ first_answer net t
  first_kept = first_back (first_answer net t) (first_fits net t)
