-- What a lookup that forwards tells: the next node is there, the function is one of the node's, and the packet goes on with a stack.
use Prim.Native.Nat.{ℕ, ◌≤◌, ◌<◌}
use native.Mathlib.Omega.{arith}
use mathlib.Core.Path.{◌≡◌, refl, sym, ap, ◌∙◌, subst}
use mathlib.Core.Bool.{Bool, true, false, cond}
use lib.Dec.{leb, eqb}
use borrow.Author.Tests.{ltb-true}
use Rattle.lists.proofs.Tests.{both}
use Rattle.stacks.proofs.Tests.{within}
use Rattle.functions.specs.Answers.{made, applied_of, number_after}
use Rattle.std.specs.Prelude.{Result, Ok, Err, Option, Some, None}
use Rattle.refusal.specs.declared.Refusal.{Refusal}
use Rattle.functions.proofs.Laws.{leads}
use Rattle.network.specs.Network.{Network, stacks, present}
use Rattle.network.proofs.Laws.{present_nodes}
use Rattle.gateways.specs.Gateways.{can}
use Rattle.table.specs.Table.{Table, no_row, ceiling, home}
use Rattle.forward.specs.declared.Hop.{Hop}
use Rattle.forward.specs.Forward.{hop, forward, look_at, ok_row, cost_of, next_of, function_of, result_of}
use Rattle.forward.specs.declared.Look.{Look}

pub record Forwards (net : Network) (t : Table) (U D N W f M c : ℕ) : Type 0 where
  pub linked : present net U W ≡ true
  pub able : can net U f ≡ true
  pub makes : applied_of net.p net.h f N ≡ made M
  pub next : W < net.n
  pub numbered : 1 ≤ M
  pub within : M ≤ stacks net

-- a number that is not 0 is what `applied` gives
gives : (a : Result (Option ℕ) Refusal) → 0 < number_after a → a ≡ made (number_after a)
gives (Ok (Some m)) h = refl
gives (Ok None) h = absurd (omega arith)
gives (Err r) h = absurd (omega arith)

module _ (net : Network) (t : Table) (U D N W f M c : ℕ) where
  row_tells : ok_row net t U D N ≡ true → forward (next_of net t U D N) (function_of net t U D N) (result_of net t U D N) (cost_of net t U D N)
      ≡ forward W f M c
      → Forwards net t U D N W f M c
  unfolding ok_row
  row_tells ok e =
      let a = both (leb 1 (cost_of net t U D N)) _ ok in
      let b = both (leb (cost_of net t U D N) ceiling) _ a.1 in
      let d = both (present net U (next_of net t U D N)) _ b.1 in
      let g = both (can net U (function_of net t U D N)) _ d.1 in
      let q : hop (next_of net t U D N) (function_of net t U D N) (result_of net t U D N) (cost_of net t U D N) ≡ hop W f M c = cc in
      let q_w : next_of net t U D N ≡ W = ap (λ (x : Hop). x.next) q in
      let qf : function_of net t U D N ≡ f = ap (λ (x : Hop). x.function) q in
      let q_m : result_of net t U D N ≡ M = ap (λ (x : Hop). x.number) q in
      let linked : present net U W ≡ true = subst (λ (x : ℕ). present net U x ≡ true) q_w d.0 in
      let makes : applied_of net.p net.h f N ≡ made M =
      subst (λ (x : ℕ). applied_of net.p net.h x N ≡ made M) qf
      (gives (applied_of net.p net.h (function_of net t U D N) N) (ltb-true 0 (result_of net t U D N) g.1) ∙ ap made q_m) in
      let number = within net.p net.h M (leads net.p net.h f N M makes).to in
      record {
        linked = linked;
        able = subst (λ (x : ℕ). can net U x ≡ true) qf g.0;
        makes = makes;
        next = (present_nodes net U W linked).1;
        numbered = number.some;
        within = number.most;
      }

  pub forward_tells : forward W f M c ≡ look_at net t U D N → Forwards net t U D N W f M c
  unfolding look_at
  forward_tells e = go (home net U D N) (eqb (cost_of net t U D N) no_row) (ok_row net t U D N) refl (sym e)
    where
      go : (a b ok : Bool) → ok_row net t U D N ≡ ok
          → cond a (Ok Look.Delivered) (cond b (Err Refusal.NoRoute) (cond ok (forward (next_of net t U D N) (function_of net t U D N) (result_of net t U D N)
          (cost_of net t U D N)) (Err Refusal.Broken)))
          ≡ forward W f M c → Forwards net t U D N W f M c
      go true b ok v d = absurd (let z : ◌≡◌ {A = ℕ} 0 1 = cc in omega arith)
      go false true ok v d = absurd (let z : ◌≡◌ {A = ℕ} 0 1 = cc in omega arith)
      go false false true v d = row_tells v d
      go false false false v d = absurd (let z : ◌≡◌ {A = ℕ} 0 1 = cc in omega arith)
