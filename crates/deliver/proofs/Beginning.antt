-- What `deliver` answers, from what `ready` and `step` answer.
use Prim.Native.Nat.{ℕ}
use mathlib.Core.Path.{◌≡◌, ap, ◌∙◌}
use mathlib.Core.Bool.{false}
use lib.Dec.{eqb}
use Rattle.std.specs.Prelude.{Result, Err}
use Rattle.refusal.specs.declared.Refusal.{Refusal}
use Rattle.refusal.specs.Numbers.{named}
use Rattle.network.specs.Network.{Network, link}
use Rattle.hear.specs.Handed.{gateway_seen}
use Rattle.hear.specs.declared.Gateway.{Gateway}
use Rattle.table.specs.Table.{Table}
use Rattle.table.specs.Answers.{refusal, message_refusal, deliver_refusal, deliver_answer, deliver_table}
use Rattle.table.proofs.Begins.{Ready, sized_so, begun}
use Rattle.step.specs.Step.{Stepped}
use Rattle.step.specs.InNetwork.{gateway_at, step_table}
use Rattle.step.proofs.Network.{step_delivers}

module _ (net : Network) (t : Table) (Q U D N : ℕ) where
  -- nothing is refused before the step
  pub delivers : (s back : ℕ) (g : Gateway) (answer : Result ℕ Refusal) (after : Table) → Ready net t s → back ≡ link net U Q → g ≡ gateway_at net s U
      → Stepped net.n (gateway_seen g) back t Q U D N answer after → (answer ≡ deliver_answer net t Q U D N) × (after ≡ deliver_table net t Q U D N)
  unfolding deliver_refusal deliver_table step_table
  delivers s back g answer after w l own x =
      let e : deliver_refusal net t Q U D N ≡ message_refusal net t Q U D N = begun net t s w (message_refusal net t Q U D N) (refusal net t) in
      let d = step_delivers net t w.network (sized_so net t s w) Q U D N s back g answer after w.stacks_are l
      (ap (λ (y : Gateway). y.p) own) (ap (λ (y : Gateway). y.most) own) (λ low. own) x in
      (d.0 ∙ simp e, d.1 ∙ simp e)

  -- the network or the table is refused
  pub not_begun : (r : Refusal) → (r ≡ named (refusal net t)) × (eqb (refusal net t) 0 ≡ false)
      → (Err r ≡ deliver_answer net t Q U D N) × (t ≡ deliver_table net t Q U D N)
  unfolding deliver_refusal deliver_table
  not_begun r h = (simp h.1 (ap Err h.0), simp h.1)
