-- Where a delivery can leave a message that was not there before: only in the receiver's block, and only where a row took an offer.
use Prim.Native.Nat.{ℕ, ◌<◌}
use native.Mathlib.Decide.{ℕ_discrete}
use native.Mathlib.Omega.{arith}
use mathlib.Core.Path.{◌≡◌, sym, ap, ◌∙◌, subst}
use mathlib.Core.Logic.{by_cases, ◌⊎◌, inl, inr}
use mathlib.Core.List.{List}
use mathlib.Core.Bool.{true, false}
use lib.ListN.{length, get_or}
use lib.Dec.{eqb}
use borrow.Author.Tests.{eqb-true, lt-ltb, le-ltb}
use Rattle.lists.proofs.Tests.{bool_cases, both}
use Rattle.lists.proofs.Counts.{how_many_zero}
use Rattle.bits.proofs.Laws.{without_le}
use Rattle.network.specs.Network.{Network, stacks}
use Rattle.hear.specs.Hearing.{takes, taken}
use Rattle.table.specs.Table.{Table, Sized, rows_all, place, vertex, node_at, destination_at, number_at, rows_at}
use Rattle.table.specs.Table.{gateway, message, cleared, delivered, offers_taken}
use Rattle.table.specs.Answers.{message_refusal}
use Rattle.run.specs.Flags.{Flagged}
use Rattle.run.specs.Turns.{flags_after}
use Rattle.table.proofs.Rows.{Stack, is_row, of_place, vertex_below}
use Rattle.table.proofs.Deliveries.{Goes, goes, took, stays, takes_took, delivered_sized, cleared_row, kept_row, rows_long}
use Rattle.run.proofs.Flags.{flagged_kept, flagged_set}

module _ (net : Network) (t : Table) (Q U D N : ℕ) (sized : Sized net t) (made : message_refusal net t Q U D N ≡ 0) where
  g : Goes net t Q U D N
  g = goes net t Q U D N made

  -- clearing one bit makes no word that was 0 another
  cleared_zero : (i : ℕ) → get_or t.waiting i 0 ≡ 0 → get_or (cleared net t Q U D N).waiting i 0 ≡ 0
  cleared_zero i z = by_cases (ℕ_discrete i (place net Q D N))
      (λ e. let here = cleared_row net t Q U D N sized g.sender g.destination g.stack in
      let old : get_or t.waiting (place net Q D N) 0 ≡ 0 = ap (λ (k : ℕ). get_or t.waiting k 0) (sym e) ∙ z in
      ap (λ (k : ℕ). get_or (cleared net t Q U D N).waiting k 0) e ∙ omega (arith, here, without_le (get_or t.waiting (place net Q D N) 0) U))
      (λ other. kept_row net t Q U D N sized i other ∙ z)

  -- a row that took no offer
  quiet_row : (i : ℕ) → i < rows_all net → (node_at net i ≡ U → took net t Q U D N (destination_at net i) (number_at net i) ≡ false)
      → get_or t.waiting i 0 ≡ 0 → get_or (delivered net t Q U D N).waiting i 0 ≡ 0
  quiet_row i low not_took z =
      let r = is_row net i low in
      let s = stays net t Q U D N sized g.receiver (destination_at net i) (number_at net i) r.destination r.stack (node_at net i) not_took in
      ap (λ (k : ℕ). get_or (delivered net t Q U D N).waiting k 0) (sym (of_place net i)) ∙ s.waiting
      ∙ ap (λ (k : ℕ). get_or (cleared net t Q U D N).waiting k 0) (of_place net i) ∙ cleared_zero i z

  took_there : (i : ℕ) → took net t Q U D N (destination_at net i) (number_at net i) ≡ true → destination_at net i ≡ D
  unfolding took
  took_there i e = eqb-true (destination_at net i) D (both (eqb (destination_at net i) D) _ e).0

  marked : (i : ℕ) → i < rows_all net → (get_or (delivered net t Q U D N).waiting i 0 ≡ 0 → ⊥)
      → (get_or t.waiting i 0 ≡ 0 → ⊥) ⊎ ((node_at net i ≡ U) × (destination_at net i ≡ D))
  marked i low new = by_cases (ℕ_discrete (node_at net i) U)
      (λ here. bool_cases (took net t Q U D N (destination_at net i) (number_at net i))
      (λ e. inr (here, took_there i e))
      (λ e. inl (λ z. new (quiet_row i low (λ _. e) z))))
      (λ there. inl (λ z. new (quiet_row i low (λ q. absurd (there q)) z)))

  -- where no row took an offer, no row did
  none_took : offers_taken net t Q U D N ≡ 0 → (E M : ℕ) → E < net.n → Stack net M → took net t Q U D N E M ≡ false
  unfolding offers_taken taken
  none_took zero_taken E M e m =
      sym (takes_took net t Q U D N sized g.receiver E M e m)
      ∙ how_many_zero (length (rows_at net U (cleared net t Q U D N)).costs) (takes (gateway net U) (message net t Q U D N)
      (rows_at net U (cleared net t Q U D N)).costs) zero_taken
      (vertex net E M) (omega (arith, rows_long net t Q U D N sized g.receiver, vertex_below net E M e m))

  -- ---- so the flags stay right
  long : length (delivered net t Q U D N).waiting ≡ length t.waiting
  long = (delivered_sized net t Q U D N sized g.receiver).waits ∙ sym sized.waits

  low_of : (i : ℕ) → i < length (delivered net t Q U D N).waiting → i < rows_all net
  low_of i b = omega (arith, (delivered_sized net t Q U D N sized g.receiver).waits)

  right_here : (flags : List ℕ) → Flagged net.n (stacks net) flags t.waiting
      → Flagged net.n (stacks net) (flags_after flags U D (offers_taken net t Q U D N)) (delivered net t Q U D N).waiting
  right_here flags f = by_cases (ℕ_discrete (offers_taken net t Q U D N) 0)
      (λ none. simp (le-ltb 0 (offers_taken net t Q U D N) (omega arith))
      (flagged_kept net.n (stacks net) flags t.waiting (delivered net t Q U D N).waiting f
      (λ i b new z. new (quiet_row i (low_of i b) (λ _. none_took none (destination_at net i) (number_at net i) (is_row net i (low_of i b)).destination
      (is_row net i (low_of i b)).stack) z))
      long))
      (λ some. simp (lt-ltb 0 (offers_taken net t Q U D N) (omega (arith, some)))
      (flagged_set net.n (stacks net) flags t.waiting (delivered net t Q U D N).waiting U D f g.receiver g.destination
      (λ i b new. marked i (low_of i b) new) long))

  pub flags_right : (s : ℕ) (flags : List ℕ) → s ≡ stacks net → Flagged net.n s flags t.waiting
      → Flagged net.n s (flags_after flags U D (offers_taken net t Q U D N)) (delivered net t Q U D N).waiting
  flags_right s flags same f =
      subst (λ (k : ℕ). Flagged net.n k (flags_after flags U D (offers_taken net t Q U D N)) (delivered net t Q U D N).waiting) (sym same)
      (right_here flags (subst (λ (k : ℕ). Flagged net.n k flags t.waiting) same f))
