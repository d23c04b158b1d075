-- What fresh, count and first waiting answer is within the ranges of specs/Ranges.antt.
use Prim.Native.Nat.{◌≤◌, min}
use native.Mathlib.Omega.{arith}
use mathlib.Core.Path.{◌≡◌, refl, ◌∙◌}
use lib.ListN.{length, get_or}
use lib.Count.{trailing_le}
use Rattle.lists.proofs.Tables.{length_tabulate}
use Rattle.bits.proofs.LowestBit.{lowest_is_library}
use Rattle.words.specs.Words.{ones_in, first_in}
use Rattle.words.specs.declared.Found.{Found}
use Rattle.words.proofs.Search.{ones_in_most}
use Rattle.words.proofs.Answers.{Here, first_at, first_whole}
use Rattle.network.specs.Network.{Network, stacks}
use Rattle.network.proofs.Laws.{valid}
use Rattle.table.specs.Table.{Table, rows_all, fresh}
use Rattle.table.specs.Answers.{refusal, fresh_answer, count_answer, first_of, first_answer}
use Rattle.std.specs.Prelude.{Ok, Err, Option, Some, None}
use Rattle.refusal.specs.Numbers.{named}
use Rattle.table.proofs.Begins.{Ready, divides, rows_few}
use Rattle.table.proofs.Rows.{is_row}
use Rattle.table.proofs.Refusals.{by_refusal}
use Rattle.table_exports.specs.Ranges.{CountedFits, FoundFits, FirstFits}

-- ---- the count of messages: 32 bits to a word
pub count_most : (net : Network) (t : Table) → Ready net t (stacks net) → ones_in t.waiting ≤ 16777216
count_most net t r = omega (arith, ones_in_most t.waiting, (rows_few net t (stacks net) r).0)

fresh_long : (net : Network) → length (fresh net).waiting ≡ rows_all net
unfolding fresh
fresh_long net = length_tabulate (rows_all net) _

fresh_most : (net : Network) (t : Table) → Ready net t (stacks net) → ones_in (fresh net).waiting ≤ 16777216
fresh_most net t r = omega (arith, ones_in_most (fresh net).waiting, fresh_long net, (rows_few net t (stacks net) r).2)

pub count_fits : (net : Network) (t : Table) → CountedFits (count_answer net t)
count_fits net t = by_refusal net t CountedFits (Ok (ones_in t.waiting)) (Err (named (refusal net t)))
    (λ r. omega (arith, count_most net t r)) (λ some few. tt)

pub fresh_fits : (net : Network) (t : Table) → CountedFits (fresh_answer net t)
fresh_fits net t = by_refusal net t CountedFits (Ok (ones_in (fresh net).waiting)) (Err (named (refusal net t)))
    (λ r. omega (arith, fresh_most net t r)) (λ some few. tt)

-- ---- the first message
module _ (net : Network) (t : Table) (r : Ready net t (stacks net)) where
  found_fits : (f : Option Found) → first_in t.waiting ≡ f → FoundFits (first_of net t f)
  found_fits None e = tt
  found_fits (Some f) e =
      let i = f.word in
      let bit = f.bit in
      let here : Here t.waiting 0 (min (length t.waiting) (length t.waiting)) i bit = first_at t.waiting 0 (length t.waiting) i bit (first_whole t.waiting
      ∙ e) in
      let row = is_row net i (omega (arith, here.inside, r.waiting_long)) in
      let d = divides net t (stacks net) r in
      record {
        sends = omega (arith, row.node, (valid net r.network).few);
        hears = omega (arith, here.lowest_bit, lowest_is_library (get_or t.waiting i 0), trailing_le 32 (get_or t.waiting i 0));
        known = omega (arith, row.destination, (valid net r.network).few);
        numbered = omega (arith, row.stack.most, d.few);
      }

pub first_fits : (net : Network) (t : Table) → FirstFits (first_answer net t)
first_fits net t = by_refusal net t FirstFits (Ok (first_of net t (first_in t.waiting))) (Err (named (refusal net t)))
    (λ r. found_fits net t r (first_in t.waiting) refl) (λ some few. tt)
