-- What carry answers once `begin` has told it of the packet: the journey, or zeros and a refusal.
use Prim.Native.Nat.{ℕ, ◌≤◌, ◌<◌}
use mathlib.Core.Path.{◌≡◌, refl, ap, ◌∙◌, subst}
use mathlib.Core.List.{List}
use mathlib.Core.Bool.{Bool, true, false, cond, ◌&&◌}
use lib.Dec.{leb, eqb}
use borrow.Author.Tests.{le-leb, lt-leb}
use Rattle.std.specs.Prelude.{Ok, Err, Some}
use Rattle.refusal.specs.declared.Refusal.{Refusal}
use Rattle.refusal.specs.Numbers.{refused_with}
use Rattle.stacks.specs.Stacks.{number}
use Rattle.network.specs.Network.{Network}
use Rattle.table.specs.Table.{Table}
use Rattle.table.specs.Answers.{refusal}
use Rattle.packet.specs.Packet.{ok_packet, packet_of, Placed}
use Rattle.packet.specs.declared.Packet.{Packet}
use Rattle.packet.proofs.Packets.{is_begun, placed, tested, goes_on, is_over}
use Rattle.carry.specs.Carry.{Journey, stop, journey, carry_of, zeros, Carries}
use Rattle.carry.specs.declared.Carried.{Carried}

same_journey : (j k : Journey) (a : Carried) → j ≡ k → Carries j a → Carries k a
same_journey j k a e h = subst (λ (x : Journey). Carries x a) e h

stopped : (r : Refusal) (m : ℕ) (k : Journey) → Some r ≡ refused_with m → stop 0 0 m ≡ k → Carries k (zeros r)
stopped r m k is e = same_journey (stop 0 0 m) k (zeros r) e (record { hops = refl; spent = refl; node = refl; number = refl; refused = is })

one_by_one : (a b : Bool) (x y : Journey) → cond a (cond b x y) y ≡ cond (a && b) x y
one_by_one true b x y = refl
one_by_one false b x y = refl

module _ (net : Network) (t : Table) (U D : ℕ) (stack : List ℕ) (limit : ℕ) where
  -- the journey where the limit is right
  unfoldable far : Journey
  far = cond (leb limit 16384) (journey net t D limit U (number net.p stack)) (stop 0 0 4)

  -- the limit is tested last
  last : tested net t U D stack far (stop 0 0) ≡ carry_of net t U D stack limit
  unfolding carry_of far
  last = ap (λ (j : Journey). cond (eqb (refusal net t) 0) j (stop 0 0 (refusal net t))) (one_by_one (ok_packet net U D stack) (leb limit 16384)
      (journey net t D limit U (number net.p stack)) (stop 0 0 4))

  module _ (k : Packet) (told : Ok k ≡ packet_of net t U D stack) where
    pub stands : Placed net k.stacks U D k.number
    stands = placed net t U D stack k.stacks k.number (is_begun net t U D stack k told)

    begins : far ≡ carry_of net t U D stack limit
    begins = goes_on net t U D stack far (stop 0 0) k.stacks k.number (is_begun net t U D stack k told) ∙ last

    pub carried : limit ≤ 16384 → (a : Carried) → Carries (journey net t D limit U k.number) a → Carries (carry_of net t U D stack limit) a
    unfolding far
    carried low a h =
        same_journey (journey net t D limit U k.number) (carry_of net t U D stack limit) a
        (ap (journey net t D limit U) (is_begun net t U D stack k told).number_is ∙ (simp (le-leb limit 16384 low) at begins)) h

    pub too_far : 16384 < limit → Carries (carry_of net t U D stack limit) (zeros Refusal.Range)
    unfolding far
    too_far high = stopped Refusal.Range 4 (carry_of net t U D stack limit) refl (simp (lt-leb limit 16384 high) at begins)

  pub refused : (r : Refusal) → Err r ≡ packet_of net t U D stack → Carries (carry_of net t U D stack limit) (zeros r)
  refused r told =
      let o = is_over net t U D stack far (stop 0 0) r told in
      stopped r o.number (carry_of net t U D stack limit) (simp o.some (ap Some o.named_so)) (o.answers ∙ last)
