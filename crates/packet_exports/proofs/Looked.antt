-- What lookup answers is within the ranges, and a C caller reads it back.
use Prim.Native.Nat.{ℕ}
use native.Mathlib.Omega.{arith}
use mathlib.Core.Path.{◌≡◌, refl}
use mathlib.Core.List.{List}
use mathlib.Core.Bool.{Bool, true, false, cond}
use lib.Dec.{leb, eqb}
use borrow.Author.Tests.{leb-true}
use Rattle.lists.proofs.Tests.{both}
use Rattle.std.specs.Prelude.{Ok, Err}
use Rattle.refusal.specs.declared.Refusal.{Refusal}
use Rattle.refusal.specs.Numbers.{named}
use Rattle.stacks.specs.Stacks.{number}
use Rattle.functions.proofs.Tests.{function}
use Rattle.network.specs.Network.{Network, stacks}
use Rattle.network.proofs.Laws.{valid}
use Rattle.gateways.proofs.Laws.{can_function}
use Rattle.table.specs.Table.{Table, no_row, ceiling, home}
use Rattle.table.specs.Answers.{refusal}
use Rattle.table.proofs.Begins.{Ready, divides}
use Rattle.forward.specs.Forward.{forward, cost_of, next_of, function_of, result_of, ok_row, look_at}
use Rattle.packet.specs.Packet.{ok_packet}
use Rattle.forward.specs.Answers.{lookup_of}
use Rattle.forward.specs.declared.Look.{Look}
use Rattle.forward.proofs.Tells.{forward_tells}
use Rattle.table.proofs.Refusals.{by_refusal}
use Rattle.packet_exports.specs.Packing.{pack_look, unpack_look}
use Rattle.packet_exports.specs.Ranges.{ForwardFits, LookFits}
use Rattle.packet_exports.proofs.Unpacked.{look_back}

module _ (net : Network) (t : Table) (ready : Ready net t (stacks net)) (U D N : ℕ) where
  forward_fits : home net U D N ≡ false → eqb (cost_of net t U D N) no_row ≡ false → ok_row net t U D N ≡ true
      → ForwardFits (next_of net t U D N) (function_of net t U D N) (result_of net t U D N) (cost_of net t U D N)
  unfolding ok_row look_at
  forward_fits away row ok =
      let f = forward_tells net t U D N (next_of net t U D N) (function_of net t U D N) (result_of net t U D N) (cost_of net t U D N) (simp (away, row, ok)) in
      let a = both (leb 1 (cost_of net t U D N)) _ ok in
      let b = both (leb (cost_of net t U D N) ceiling) _ a.1 in
      record {
        hops = omega (arith, f.next, (valid net ready.network).few);
        applies = (function net.p (function_of net t U D N) (can_function net U (function_of net t U D N) f.able).1).kind;
        numbered = omega (arith, f.within, (divides net t (stacks net) ready).few);
        priced = leb-true (cost_of net t U D N) ceiling b.0;
      }

  at_fits : LookFits (look_at net t U D N)
  unfolding look_at
  at_fits = go (home net U D N) refl (eqb (cost_of net t U D N) no_row) refl (ok_row net t U D N) refl
    where
      go : (a : Bool) → home net U D N ≡ a → (b : Bool) → eqb (cost_of net t U D N) no_row ≡ b → (c : Bool) → ok_row net t U D N ≡ c
          → LookFits (cond a (Ok Look.Delivered) (cond b (Err Refusal.NoRoute)
          (cond c (forward (next_of net t U D N) (function_of net t U D N) (result_of net t U D N) (cost_of net t U D N)) (Err Refusal.Broken))))
      go true x b y c z = tt
      go false x true y c z = tt
      go false x false y true z = forward_fits x y z
      go false x false y false z = tt

module _ (net : Network) (t : Table) (U D : ℕ) (stack : List ℕ) where
  pub look_fits : LookFits (lookup_of net t U D stack)
  look_fits = by_refusal net t LookFits (cond (ok_packet net U D stack) (look_at net t U D (number net.p stack)) (Err Refusal.Range))
      (Err (named (refusal net t)))
      (λ r. go r (ok_packet net U D stack)) (λ some few. tt)
    where
      go : Ready net t (stacks net) → (b : Bool) → LookFits (cond b (look_at net t U D (number net.p stack)) (Err Refusal.Range))
      go r true = at_fits net t r U D (number net.p stack)
      go r false = tt

  -- what the C caller reads back is the lookup's whole answer
  pub lookup_kept : unpack_look (pack_look (lookup_of net t U D stack)) ≡ lookup_of net t U D stack
  lookup_kept = look_back (lookup_of net t U D stack) look_fits
