-- THE LAW of a step in a network: to a gateway of a network that is right, it is the delivery of the specification.
use Prim.Native.Nat.{ℕ, zero, suc, ◌*◌, ◌≤◌, ◌<◌}
use native.Mathlib.Nat.{mul-le-mul_right, one-mul}
use native.Mathlib.Omega.{arith}
use mathlib.Core.Path.{◌≡◌, refl, ap, ◌∙◌}
use mathlib.Core.List.{List, []}
use mathlib.Core.Bool.{Bool, true, false}
use lib.ListN.{length, get_or}
use lib.Dec.{eqb}
use borrow.Author.Tests.{le-leb, eq-eqb, eqb-true}
use Rattle.stacks.proofs.Tests.{sizes}
use Rattle.functions.specs.Functions.{kind_of, from_of, to_of}
use Rattle.network.specs.Network.{Network, stacks, link, refusal_of}
use Rattle.network.proofs.Laws.{valid}
use Rattle.gateways.specs.Gateways.{grid_of}
use Rattle.gateways.proofs.Laws.{grid_word}
use Rattle.hear.specs.Handed.{gateway_seen}
use Rattle.hear.specs.declared.Gateway.{Gateway as HandedGateway}
use Rattle.hear.specs.Answers as hearing
use Rattle.hear.proofs.Laws.{Alike, heard_same, taken_same}
use Rattle.table.proofs.Deliveries.{goes}
use Rattle.table.specs.Table.{Table, Sized, rows_at, gateway, message, cleared, delivered, offers_taken}
use Rattle.table.specs.Answers.{message_refusal}
use Rattle.std.specs.Prelude.{Result, Ok}
use Rattle.refusal.specs.declared.Refusal.{Refusal}
use Rattle.step.specs.Step.{ok_rows, table_after, Stepped}
use Rattle.step.specs.Step as step
use Rattle.step.specs.InNetwork.{gateway_at, step_answer, step_table}

-- ---- the gateway that `step` is told of is the one of the network
grid_same : (k : ℕ) (n p : ℕ) (functions : List ℕ) (U : ℕ) → k < 3 → hearing.grid_of_kind k (grid_of n p functions U 0) (grid_of n p functions U 1)
    (grid_of n p functions U 2) ≡ grid_of n p functions U k
grid_same zero n p functions U low = refl
grid_same (suc zero) n p functions U low = refl
grid_same (suc (suc zero)) n p functions U low = refl
grid_same (suc (suc (suc k))) n p functions U low = absurd (omega arith)

alike : (net : Network) (U : ℕ) → Alike (gateway_seen (gateway_at net (stacks net) U)) (gateway net U)
alike net U = record {
  p = refl;
  most = refl;
  neighbours = refl;
  words = λ f low.
      ap (λ (g : List (List ℕ)). get_or (get_or g (from_of f) []) (to_of f) 0) (grid_same (kind_of f) net.n net.p net.functions U (omega arith))
      ∙ grid_word net.n net.p net.functions U (kind_of f) (from_of f) (to_of f) (omega arith) (omega arith);
}

module _ (net : Network) (t : Table) (right : refusal_of net ≡ 0) (sized : Sized net t) (Q U D N : ℕ) where
  -- ---- it is refused what the delivery is refused
  sizes_right : ok_rows net.n net.p (stacks net) (length t.cost) (length t.way) (length t.waiting) ≡ true
  unfolding ok_rows
  sizes_right =
      let v = valid net right in
      let z = sizes net.p net.h v.size in
      let few : stacks net ≤ 16384 = omega (arith, v.room, mul-le-mul_right (stacks net) v.nodes, one-mul (stacks net)) in
      simp (
        le-leb 1 net.p z.some,
        le-leb net.p 8 z.few,
        le-leb net.n 32 v.few,
        le-leb (stacks net) 16384 few,
        sized.costs,
        sized.ways,
        sized.waits,
        eq-eqb
            (net.n * (net.n * stacks net)) (net.n * (net.n * stacks net)) refl,
      )

  same_refusal : step.refusal_in net.n net.p (stacks net) (link net U Q) t Q U D N ≡ message_refusal net t Q U D N
  unfolding step.refusal_in
  same_refusal = simp sizes_right

  -- ---- and does what the delivery does
  same : (answer : Result ℕ Refusal) (after : Table) → Stepped net.n (gateway_seen (gateway_at net (stacks net) U)) (link net U Q) t Q U D N answer after
      → (answer ≡ step_answer net t Q U D N) × (after ≡ step_table net t Q U D N)
  unfolding table_after step_table delivered offers_taken
  same answer after x = go (eqb (message_refusal net t Q U D N) 0) refl
    where
      go : (b : Bool) → eqb (message_refusal net t Q U D N) 0 ≡ b → (answer ≡ step_answer net t Q U D N) × (after ≡ step_table net t Q U D N)
      go true q =
          let hears = gateway_seen (gateway_at net (stacks net) U) in
          let m = message net t Q U D N in
          let r = rows_at net U (cleared net t Q U D N) in (
            x.answers ∙ simp (same_refusal, q) (ap Ok (taken_same hears (gateway net U) m (alike net U) r)),
            x.table ∙ simp (same_refusal, q, heard_same hears (gateway net U) m (alike net U) r),
          )
      go false q = (x.answers ∙ simp (same_refusal, q), x.table ∙ simp (same_refusal, q))

  -- a message to no node is refused, whatever gateway it is handed to
  elsewhere : (g : HandedGateway) (answer : Result ℕ Refusal) (after : Table) → g.p ≡ net.p → g.most ≡ stacks net
      → eqb (message_refusal net t Q U D N) 0 ≡ false → Stepped net.n (gateway_seen g) (link net U Q) t Q U D N answer after
      → (answer ≡ step_answer net t Q U D N) × (after ≡ step_table net t Q U D N)
  unfolding table_after step_table
  elsewhere g answer after p_is most_is q x = (x.answers ∙ simp (p_is, most_is, same_refusal, q), x.table ∙ simp (p_is, most_is, same_refusal, q))

  -- with s stacks, as `ready` counted them, and with the gateway and the cost of the link back as they were read
  pub step_delivers : (s back : ℕ) (g : HandedGateway) (answer : Result ℕ Refusal) (after : Table) → s ≡ stacks net → back ≡ link net U Q
      → g.p ≡ net.p → g.most ≡ s → (U < net.n → g ≡ gateway_at net s U) → Stepped net.n (gateway_seen g) back t Q U D N answer after
      → (answer ≡ step_answer net t Q U D N) × (after ≡ step_table net t Q U D N)
  step_delivers s back g answer after e l p_is most_is own x = go (eqb (message_refusal net t Q U D N) 0) refl
    where
      go : (b : Bool) → eqb (message_refusal net t Q U D N) 0 ≡ b → (answer ≡ step_answer net t Q U D N) × (after ≡ step_table net t Q U D N)
      go true q =
          let here = own (goes net t Q U D N (eqb-true (message_refusal net t Q U D N) 0 q)).receiver in
          same answer after (simp (here, e, l) at x)
      go false q = elsewhere g answer after p_is (most_is ∙ e) q (simp l at x)
