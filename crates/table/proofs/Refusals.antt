-- A table is refused 1, 2 or 3, and one that is not refused is right; a refused delivery leaves it as it is.
use Prim.Native.Nat.{ℕ, ◌≤◌}
use native.Mathlib.Decide.{ℕ_discrete}
use native.Mathlib.Omega.{arith}
use mathlib.Core.Path.{◌≡◌, refl, sym, ◌∙◌, subst}
use mathlib.Core.Logic.{by_cases}
use mathlib.Core.Bool.{Bool, true, false, cond, true≢false}
use lib.ListN.{length}
use lib.Dec.{eqb}
use borrow.Author.Tests.{eqb-true, eqb-false, eq-eqb, ne_eqb}
use Rattle.network.specs.Network.{Network, stacks, refusal_of}
use Rattle.std.specs.Prelude.{Ok, Err}
use Rattle.refusal.specs.Numbers.{named}
use Rattle.network.proofs.Laws.{refusal_most}
use Rattle.table.specs.Table.{Table, delivered}
use Rattle.table.specs.Answers.{ok_lengths, refusal_by, refusal, message_refusal, deliver_refusal, deliver_table}
use Rattle.table.proofs.Begins.{Ready, is_ready}

module _ (net : Network) (t : Table) where
  pub refusal_few : refusal net t ≤ 3
  unfolding refusal refusal_by
  refusal_few = go (eqb (refusal_of net) 0) (ok_lengths net (length t.cost) (length t.way) (length t.waiting))
    where
      go : (a b : Bool) → cond a (cond b 0 3) (refusal_of net) ≤ 3
      go true true = omega arith
      go true false = omega arith
      go false b = omega (arith, refusal_most net)

  pub ready_then : refusal net t ≡ 0 → Ready net t (stacks net)
  unfolding refusal refusal_by
  ready_then e = is_ready net t (stacks net) (go (eqb (refusal_of net) 0) refl (ok_lengths net (length t.cost) (length t.way) (length t.waiting)) e)
    where
      go : (a : Bool) → eqb (refusal_of net) 0 ≡ a → (b : Bool) → cond a (cond b 0 3) (refusal_of net) ≡ 0
          → cond (eqb (cond a (cond b 0 3) (refusal_of net)) 0) (Ok (stacks net)) (Err (named (cond a (cond b 0 3) (refusal_of net))))
          ≡ Ok (stacks net)
      go true u true d = refl
      go true u false d = absurd (omega arith)
      go false u b d = absurd (eqb-false (refusal_of net) 0 u d)

  -- what holds of a refusal and, in a table that is right, of what the call answers there, holds of its answer
  pub by_refusal : {A : Type 0} (P : A → Type 0) (answer refused : A) → (Ready net t (stacks net) → P answer) → (1 ≤ refusal net t → refusal net t ≤ 3
      → P refused)
      → P (cond (eqb (refusal net t) 0) answer refused)
  by_refusal P answer refused f g = go (eqb (refusal net t) 0) refl
    where
      go : (b : Bool) → eqb (refusal net t) 0 ≡ b → P (cond b answer refused)
      go true e = f (ready_then (eqb-true (refusal net t) 0 e))
      go false e = let some = eqb-false (refusal net t) 0 e in g (omega (arith, some)) refusal_few

-- ---- a delivery goes through, or leaves the table as it is
module _ (net : Network) (t : Table) (Q U D N : ℕ) where
  -- a delivery that is not refused has none of its own refusals either, and makes the table that is its definition
  pub goes_through : deliver_refusal net t Q U D N ≡ 0 → (message_refusal net t Q U D N ≡ 0) × (deliver_table net t Q U D N ≡ delivered net t Q U D N)
  unfolding deliver_refusal deliver_table
  goes_through e = (go (eqb (refusal net t) 0) refl e, rw (eq-eqb (deliver_refusal net t Q U D N) 0 e) refl)
    where
      go : (b : Bool) → eqb (refusal net t) 0 ≡ b → cond b (message_refusal net t Q U D N) (refusal net t) ≡ 0 → message_refusal net t Q U D N ≡ 0
      go true z d = d
      go false z d = absurd (true≢false (sym (eq-eqb (refusal net t) 0 d) ∙ z))

  pub refused_stays : (deliver_refusal net t Q U D N ≡ 0 → ⊥) → deliver_table net t Q U D N ≡ t
  unfolding deliver_table
  refused_stays n = rw (ne_eqb (deliver_refusal net t Q U D N) 0 n) refl

  -- so what holds in both cases holds of the table after any call of deliver
  pub delivery_cases : (P : Table → Type 0) → (message_refusal net t Q U D N ≡ 0 → P (delivered net t Q U D N)) → P t → P (deliver_table net t Q U D N)
  delivery_cases P through same = by_cases (ℕ_discrete (deliver_refusal net t Q U D N) 0)
      (λ e. let g = goes_through e in subst P (sym g.1) (through g.0))
      (λ n. subst P (sym (refused_stays n)) same)
