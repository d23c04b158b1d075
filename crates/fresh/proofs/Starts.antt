-- What `fresh` knows and leaves: the filled lists, and at the end the fresh table and its count.
use Prim.Native.Nat.{ℕ, ◌+◌, ◌*◌, ◌/◌}
use native.Mathlib.Omega.{arith}
use mathlib.Core.Path.{◌≡◌, refl, sym, ap, ◌∙◌}
use mathlib.Core.List.{List}
use mathlib.Core.Bool.{Bool, false, cond}
use lib.Dec.{eqb}
use lib.ListN.{length, replicate}
use Rattle.lists.specs.Lists.{tabulate}
use Rattle.lists.proofs.Tables.{tabulate_same, tabulate_one}
use Rattle.stacks.proofs.Count.{count_some}
use Rattle.stacks.proofs.Tests.{sizes}
use Rattle.words.specs.Words.{ones_in}
use Rattle.network.specs.Network.{Network, stacks, neighbours}
use Rattle.network.proofs.Laws.{valid}
use Rattle.table.specs.Table.{Table, table_of, no_row, no_way, rows_all, home_at, home, fresh}
use Rattle.table.specs.Answers.{refusal, fresh_answer, fresh_table}
use Rattle.fresh.specs.Filling.{Shape, set_below, is_home, costs_below, waits_below}
use Rattle.std.specs.Prelude.{Ok, Err}
use Rattle.refusal.specs.declared.Refusal.{Refusal}
use Rattle.refusal.specs.Numbers.{named}
use Rattle.table.proofs.Begins.{Ready, begun, stopped}
use Rattle.fresh.proofs.HomePlaces.{below_none, below_all, past_rows}

-- the homes of the filling are those of the specification
home_same : (net : Network) (i : ℕ) → is_home net.n net.p (stacks net) net.functions i ≡ home_at net i
unfolding is_home home
home_same net i = refl

module _ (net : Network) (t : Table) (s : ℕ) (ready : Ready net t s) where
  pub shape_of : Shape net.n net.p s
  shape_of =
      let w = valid net ready.network in
      record {
        few = w.few;
        single = omega (arith, ready.stacks_are, count_some net.p net.h (sizes net.p net.h w.size).high);
        room = omega (arith, w.room, ap (λ (k : ℕ). net.n * k) ready.stacks_are);
      }

  rows_are : rows_all net ≡ net.n * (net.n * s)
  rows_are = ap (λ (k : ℕ). net.n * (net.n * k)) (sym ready.stacks_are)

  -- a list that is filled with one number has no home yet
  pub none_yet : (l : List ℕ) (long : ℕ) (test : ℕ → Bool) (value : ℕ → ℕ) (other : ℕ) → long ≡ rows_all net → l ≡ replicate long other
      → l ≡ set_below (net.n * (net.n * s)) test value other 0
  none_yet l long test value other e d =
      d ∙ tabulate_one long other ∙ ap (λ (k : ℕ). tabulate k (λ i. other)) (e ∙ rows_are) ∙ below_none (net.n * (net.n * s)) test value other

  -- and one with all homes set
  all_set : (l : List ℕ) (value : ℕ → ℕ) (other : ℕ)
      → l ≡ set_below (net.n * (net.n * s)) (is_home net.n net.p s net.functions) value other ((net.n * net.n + net.n) * s)
      → l ≡ tabulate (rows_all net) (λ i. cond (home_at net i) (value i) other)
  all_set l value other e =
      e ∙ below_all (net.n * (net.n * s)) (is_home net.n net.p s net.functions) value other ((net.n * net.n + net.n) * s)
      (past_rows net.n net.p s shape_of)
      ∙ ap (λ (k : ℕ). tabulate (net.n * (net.n * k)) (λ i. cond (is_home net.n net.p k net.functions i) (value i) other)) ready.stacks_are
      ∙ tabulate_same 0 (rows_all net) _ (λ i. cond (home_at net i) (value i) other) (λ i b. ap (λ (h : Bool). cond h (value i) other) (home_same net i))

  module _ (cost way waiting : List ℕ)
      (costs : cost ≡ costs_below net.n net.p s net.functions ((net.n * net.n + net.n) * s))
      (ways : way ≡ replicate (length t.way) no_way)
      (waits : waiting ≡ waits_below net.n net.p s net.functions net.links ((net.n * net.n + net.n) * s)) where
    cost_fresh : cost ≡ (fresh net).cost
    unfolding fresh
    cost_fresh = all_set cost (λ i. 0) no_row costs

    way_fresh : way ≡ (fresh net).way
    unfolding fresh
    way_fresh = ways ∙ tabulate_one _ no_way ∙ ap (λ (k : ℕ). tabulate k (λ i. no_way)) ready.way_long

    waiting_fresh : waiting ≡ (fresh net).waiting
    unfolding fresh
    waiting_fresh =
        all_set waiting _ 0 waits
        ∙ ap (λ (k : ℕ). tabulate (rows_all net) (λ i. cond (home_at net i) (neighbours net (i / k / net.n)) 0)) ready.stacks_are

    pub fresh_table_lem : table_of cost way waiting ≡ fresh_table net t
    unfolding fresh_table
    fresh_table_lem =
        ap (λ (l : List ℕ). table_of l way waiting) cost_fresh
        ∙ ap (λ (l : List ℕ). table_of (fresh net).cost l waiting) way_fresh
        ∙ ap (λ (l : List ℕ). table_of (fresh net).cost (fresh net).way l) waiting_fresh
        ∙ sym (begun net t s ready (fresh net) t)

    pub fresh_count : (r : ℕ) → r ≡ ones_in waiting → Ok r ≡ fresh_answer net t
    fresh_count r e =
        ap Ok (e ∙ ap ones_in waiting_fresh)
        ∙ sym (begun net t s ready (Ok (ones_in (fresh net).waiting)) (Err (named (refusal net t))))

-- a refusal leaves the table as it was
pub fresh_refused : (net : Network) (t : Table) (r : Refusal) → (r ≡ named (refusal net t)) × (eqb (refusal net t) 0 ≡ false)
    → (Err r ≡ fresh_answer net t) × (t ≡ fresh_table net t)
unfolding fresh_table
fresh_refused net t r h = (
  ap Err h.0 ∙ sym (stopped net t h.1 (Ok (ones_in (fresh net).waiting)) (Err (named (refusal net t)))),
  sym (stopped net t h.1 (fresh net) t),
)
