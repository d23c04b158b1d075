-- A journey, hop by hop: what is done and what is left are the journey from the start.
use Prim.Native.Nat.{ℕ, zero, suc, ◌+◌, ◌-◌, ◌*◌, ◌<◌, ◌≤◌}
use native.Mathlib.Omega.{arith}
use mathlib.Core.Path.{◌≡◌, refl, sym, ap, ◌∙◌}
use Rattle.std.specs.Prelude.{Result, Ok, Err, Some}
use Rattle.std.specs.Result.{result_err}
use Rattle.refusal.specs.declared.Refusal.{Refusal}
use Rattle.refusal.specs.Numbers.{refusal_number, refused_with}
use Rattle.network.specs.Network.{Network, stacks}
use Rattle.gateways.specs.Gateways.{weight}
use Rattle.table.specs.Table.{Table}
use Rattle.packet.specs.Packet.{Placed}
use Rattle.forward.specs.Forward.{look_at}
use Rattle.forward.specs.Answers.{look_of, look_refusal}
use Rattle.forward.specs.declared.Hop.{Hop}
use Rattle.forward.specs.declared.Look.{Look}
use Rattle.forward.proofs.Looks.{look_is}
use Rattle.forward.proofs.Tells.{Forwards, forward_tells}
use Rattle.carry.specs.Carry.{Journey, stop, after, onward, journey, Carries}
use Rattle.carry.specs.declared.Carried.{Carried}

-- two journeys are equal by their parts
journey_of : (a b : Journey) → a.hops ≡ b.hops → a.spent ≡ b.spent → a.node ≡ b.node → a.number ≡ b.number → a.refused ≡ b.refused → a ≡ b
journey_of a b h s u n r = λ i. record { hops = h i; spent = s i; node = u i; number = n i; refused = r i }

-- so many hops in front of a journey, and what they cost
abbrev pub further : ℕ → ℕ → Journey → Journey
further hops spent j = record { hops = hops + j.hops; spent = spent + j.spent; node = j.node; number = j.number; refused = j.refused }

-- an answer that tells of a journey's end after so many hops
ends_so : (j : Journey) (hops spent U N refused : ℕ) (a : Carried) → j ≡ further hops spent (stop U N refused)
    → a.hops ≡ hops → a.spent ≡ spent → a.node ≡ U → a.number ≡ N → a.refused ≡ refused_with refused → Carries j a
ends_so j hops spent U N refused a e h s u n r = record {
  hops = omega (arith, ap (λ (x : Journey). x.hops) e);
  spent = omega (arith, ap (λ (x : Journey). x.spent) e);
  node = u ∙ sym (ap (λ (x : Journey). x.node) e);
  number = n ∙ sym (ap (λ (x : Journey). x.number) e);
  refused = r ∙ ap refused_with (sym (ap (λ (x : Journey). x.refused) e));
}

-- an answer that is no forward, and the refusal that it tells of, if any
abbrev pub Stops : Result Look Refusal → Type 0
Stops l = (x : Hop) → l ≡ Ok (Look.Forward x) → ⊥

told : (r : Refusal) → Some r ≡ refused_with (refusal_number r)
told Refusal.Sizes = refl
told Refusal.Links = refl
told Refusal.Table = refl
told Refusal.Range = refl
told Refusal.NoMessage = refl
told Refusal.NoRoute = refl
told Refusal.Broken = refl
told Refusal.Limit = refl
told Refusal.NoRoom = refl
told Refusal.Short = refl
told Refusal.WrongVersion = refl
told Refusal.Header = refl
told Refusal.Beyond = refl
told Refusal.Checksum = refl
told Refusal.Fragment = refl
told Refusal.Higher = refl

pub told_by : (l : Result Look Refusal) → result_err l ≡ refused_with (look_refusal l)
told_by (Ok Look.Delivered) = refl
told_by (Ok (Look.Forward x)) = refl
told_by (Err r) = told r

module _ (net : Network) (t : Table) (D : ℕ) where
  stops_at : (left : ℕ) (rest : ℕ → ℕ → Journey) (U N : ℕ) (l : Result Look Refusal) → Stops l → onward net t D left rest U N l ≡ stop U N (look_refusal l)
  stops_at zero rest U N (Ok Look.Delivered) never = refl
  stops_at (suc left) rest U N (Ok Look.Delivered) never = refl
  stops_at zero rest U N (Err r) never = refl
  stops_at (suc left) rest U N (Err r) never = refl
  stops_at zero rest U N (Ok (Look.Forward x)) never = absurd (never x refl)
  stops_at (suc left) rest U N (Ok (Look.Forward x)) never = absurd (never x refl)

  ends : (left U N : ℕ) (l : Result Look Refusal) → l ≡ look_at net t U D N → Stops l → journey net t D left U N ≡ stop U N (look_refusal l)
  ends zero U N l e never = ap (onward net t D zero (λ W M. stop W M 8) U N) (sym e) ∙ stops_at zero (λ W M. stop W M 8) U N l never
  ends (suc left) U N l e never = ap (onward net t D (suc left) (journey net t D left) U N) (sym e) ∙ stops_at (suc left) (journey net t D left) U N l never

  module _ (U N : ℕ) (x : Hop) (e : Ok (Look.Forward x) ≡ look_at net t U D N) where
    hops_on : (left : ℕ) → journey net t D (suc left) U N ≡ after (weight net U x.function x.next) (journey net t D left x.next x.number)
    hops_on left = ap (onward net t D (suc left) (journey net t D left) U N) (sym e)

    may_not : journey net t D zero U N ≡ stop U N 8
    may_not = ap (onward net t D zero (λ X Y. stop X Y 8) U N) (sym e)

-- ---- what a loop over the hops keeps
pub record Going (net : Network) (t : Table) (D limit U₀ N₀ hops spent U N : ℕ) : Type 0 where
  pub within : hops ≤ limit
  pub few : spent ≤ 131069 * hops
  pub here : U < net.n
  pub numbered : 1 ≤ N
  pub most : N ≤ stacks net
  pub whole : journey net t D limit U₀ N₀ ≡ further hops spent (journey net t D (limit - hops) U N)

module _ (net : Network) (t : Table) (D limit U₀ N₀ : ℕ) where
  module _ (hops spent U N : ℕ) (g : Going net t D limit U₀ N₀ hops spent U N) where
    -- the packet stands at a node again, so what `look` answers is the lookup there
    pub looks : (s : ℕ) → Placed net s U₀ D N₀ → {l : Result Look Refusal} → l ≡ look_of net s t.cost t.way U D N → l ≡ look_at net t U D N
    looks s q is =
        is
        ∙ look_is net t s U D N
        (record { network = q.network; stacks_are = q.stacks_are; here = g.here; there = q.there; numbered = g.numbered; within = g.most })

    -- the lookup does not forward
    pub stops_here : (l : Result Look Refusal) (a : Carried) → l ≡ look_at net t U D N → Stops l
        → a.hops ≡ hops → a.spent ≡ spent → a.node ≡ U → a.number ≡ N → a.refused ≡ refused_with (look_refusal l)
        → Carries (journey net t D limit U₀ N₀) a
    stops_here l a e never h s u n r =
        ends_so (journey net t D limit U₀ N₀) hops spent U N (look_refusal l) a
        (g.whole ∙ ap (further hops spent) (ends net t D (limit - hops) U N l e never)) h s u n r

    module _ (x : Hop) (e : Ok (Look.Forward x) ≡ look_at net t U D N) where
      -- it does, and no hop is left
      pub limit_here : (a : Carried) → hops ≡ limit → a.hops ≡ hops → a.spent ≡ spent → a.node ≡ U → a.number ≡ N → a.refused ≡ Some Refusal.Limit
          → Carries (journey net t D limit U₀ N₀) a
      limit_here a last h s u n r =
          let none : limit - hops ≡ 0 = omega arith in
          ends_so (journey net t D limit U₀ N₀) hops spent U N 8 a
          (g.whole ∙ ap (further hops spent) (ap (λ (k : ℕ). journey net t D k U N) none ∙ may_not net t D U N x e)) h s u n r

      pub tells : Forwards net t U D N x.next x.function x.number x.cost
      tells = forward_tells net t U D N x.next x.function x.number x.cost e

      -- it does, and the hop is made
      pub goes_on : (y : ℕ) → hops < limit → y ≡ weight net U x.function x.next → y ≤ 131069
          → Going net t D limit U₀ N₀ (hops + 1) (spent + y) x.next x.number
      goes_on y low price_is few =
          let more : limit - hops ≡ suc (limit - (hops + 1)) = omega arith in
          record {
            within = omega arith;
            few = omega (arith, g.few);
            here = tells.next;
            numbered = tells.numbered;
            most = tells.within;
            whole = g.whole
                ∙ ap (further hops spent) (ap (λ (k : ℕ). journey net t D k U N) more ∙ hops_on net t D U N x e (limit - (hops + 1)))
                ∙ journey_of _ (further (hops + 1) (spent + y) (journey net t D (limit - (hops + 1)) x.next x.number)) (omega arith)
                (omega arith) refl refl refl;
          }
