-- The waiting words of a table that can come to be have 32 bits, and a search that finds none finds that no message waits.
use Prim.Native.Nat.{ℕ, suc, ◌+◌, ◌^◌, ◌<◌}
use native.Mathlib.Decide.{ℕ_discrete}
use native.Mathlib.Omega.{arith}
use mathlib.Core.Path.{◌≡◌, refl, sym, ap, ◌∙◌, subst}
use mathlib.Core.Logic.{by_cases}
use mathlib.Core.List.{List, [], ◌∷◌}
use mathlib.Core.Bool.{Bool, true, false, cond}
use lib.ListN.{get_or}
use lib.Dec.{eqb}
use borrow.Author.Tests.{eqb-true}
use Rattle.std.specs.Prelude.{None}
use Rattle.lists.proofs.Tables.{get_or_tabulate}
use Rattle.bits.specs.Bits.{lowest, without, ones_of}
use Rattle.bits.proofs.Counts.{ones_zero}
use Rattle.bits.proofs.Laws.{without_fits, with_all_fits}
use Rattle.words.specs.Words.{ones_in, found_at, first_set_from, first_in}
use Rattle.network.specs.Network.{Network, neighbours, refusal_of}
use Rattle.network.proofs.Laws.{neighbours_fits}
use Rattle.table.specs.Table.{Table, Sized, rows_all, place, node_at, destination_at, number_at, home_at, fresh, cleared, delivered}
use Rattle.table.specs.Answers.{message_refusal}
use Rattle.table.proofs.Rows.{of_place, is_row}
use Rattle.table.proofs.Deliveries.{goes, took, waiting_there, waiting_here, cleared_row, kept_row}
use Rattle.table.proofs.Refusals.{delivery_cases}
use Rattle.promise.specs.Routes.{Reached, begun, delivery}
use Rattle.promise.proofs.Reaching.{sized}

-- ---- a word without bits, and a list of such words
none_found : (i : ℕ) (ws : List ℕ) → first_set_from i ws ≡ None → ones_in ws ≡ 0
unfolding first_set_from ones_in
none_found i [] e = refl
none_found i (w ∷ ws) e = go (eqb w 0) refl (none_found (suc i) ws) e
  where
    go : (b : Bool) → eqb w 0 ≡ b → (first_set_from (suc i) ws ≡ None → ones_in ws ≡ 0)
        → cond b (first_set_from (suc i) ws) (found_at i (lowest w)) ≡ None → ones_of w + ones_in ws ≡ 0
    go true z rest d = omega (arith, rest d, ap ones_of (eqb-true w 0 z), ones_zero)
    go false z rest d = absurd (let z : ◌≡◌ {A = ℕ} 0 1 = cc in omega arith)

pub nowhere_quiet : (ws : List ℕ) → first_in ws ≡ None → ones_in ws ≡ 0
unfolding first_in
nowhere_quiet ws e = none_found 0 ws e

-- ---- words of 32 bits
module _ (net : Network) (right : refusal_of net ≡ 0) where
  abbrev Fit : Table → Type 0
  Fit t = (i : ℕ) → i < rows_all net → get_or t.waiting i 0 < 2 ^ 32

  either_fits : (b : Bool) (w u : ℕ) → w < 2 ^ 32 → u < 2 ^ 32 → cond b w u < 2 ^ 32
  either_fits true w u h l = h
  either_fits false w u h l = l

  fresh_fits : Fit (fresh net)
  unfolding fresh
  fresh_fits i b =
      rw (get_or_tabulate (rows_all net) (λ i. cond (home_at net i) (neighbours net (node_at net i)) 0) i 0 b)
      (either_fits (home_at net i) (neighbours net (node_at net i)) 0 (neighbours_fits net (node_at net i) right) (omega arith))

  module _ (t : Table) (Q U D N : ℕ) (s : Sized net t) (e : message_refusal net t Q U D N ≡ 0) (fit : Fit t) where
    cleared_fits : Fit (cleared net t Q U D N)
    cleared_fits i b = by_cases (ℕ_discrete i (place net Q D N))
        (λ q. let go = goes net t Q U D N e in
        let here : get_or (cleared net t Q U D N).waiting i 0 ≡ without (get_or t.waiting i 0) U =
        ap (λ (j : ℕ). get_or (cleared net t Q U D N).waiting j 0) q
        ∙ cleared_row net t Q U D N s go.sender go.destination go.stack
        ∙ ap (λ (j : ℕ). without (get_or t.waiting j 0) U) (sym q) in
        rw here (without_fits (get_or t.waiting i 0) U (fit i b)))
        (λ n. rw (kept_row net t Q U D N s i n) (fit i b))

    delivered_fits : Fit (delivered net t Q U D N)
    delivered_fits i b = subst (λ (j : ℕ). get_or (delivered net t Q U D N).waiting j 0 < 2 ^ 32) (of_place net i) (by_cases (ℕ_discrete W U) here there)
      where
        W : ℕ
        W = node_at net i

        E : ℕ
        E = destination_at net i

        M : ℕ
        M = number_at net i

        before : get_or (cleared net t Q U D N).waiting (place net W E M) 0 < 2 ^ 32
        before = rw (of_place net i) (cleared_fits i b)

        here : W ≡ U → get_or (delivered net t Q U D N).waiting (place net W E M) 0 < 2 ^ 32
        here q = subst (λ (X : ℕ). get_or (cleared net t Q U D N).waiting (place net X E M) 0 < 2 ^ 32 → get_or (delivered net t Q U D N).waiting
            (place net X E M) 0 < 2 ^ 32) (sym q)
            (λ old. rw (waiting_here net t Q U D N s (goes net t Q U D N e).receiver E M (is_row net i b).destination (is_row net i b).stack)
            (either_fits (took net t Q U D N E M) _ _ (with_all_fits _ (neighbours net U) old (neighbours_fits net U right)) old))
            before

        there : (W ≡ U → ⊥) → get_or (delivered net t Q U D N).waiting (place net W E M) 0 < 2 ^ 32
        there other = rw (waiting_there net t Q U D N s (goes net t Q U D N e).receiver E M (is_row net i b).destination (is_row net i b).stack W other) before

  pub words_fit : {t : Table} → Reached net t → (i : ℕ) → i < rows_all net → get_or t.waiting i 0 < 2 ^ 32
  words_fit begun = fresh_fits
  words_fit (delivery {t = t} Q U D N r) = delivery_cases net t Q U D N Fit (λ e. delivered_fits t Q U D N (sized net r) e (words_fit r)) (words_fit r)
