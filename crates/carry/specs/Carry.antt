-- How far a packet is carried: the part "Carry" of the specification, and what carry answers, for every input.
use Rattle.std.specs.Prelude.{ℕ, zero, suc, ◌+◌, ◌≡◌, List, cond, ◌&&◌, leb, eqb, Result, Ok, Err, Some}
use Rattle.refusal.specs.declared.Refusal.{Refusal}
use Rattle.refusal.specs.Numbers.{refusal_number, refused_with}
use Rattle.stacks.specs.Stacks.{number}
use Rattle.network.specs.Network.{Network}
use Rattle.gateways.specs.Gateways.{weight}
use Rattle.table.specs.Table.{Table}
use Rattle.table.specs.Answers.{refusal}
use Rattle.packet.specs.Packet.{ok_packet}
use Rattle.forward.specs.Forward.{look_at}
use Rattle.forward.specs.declared.Look.{Look}
use Rattle.carry.specs.declared.Carried.{Carried}

-- how far a packet came: hops, the cost spent on them, the node and stack number reached, and the refusal that stopped it, 0 where delivered
pub record Journey : Type 0 where
  pub hops : ℕ
  pub spent : ℕ
  pub node : ℕ
  pub number : ℕ
  pub refused : ℕ

abbrev pub stop : ℕ → ℕ → ℕ → Journey
stop U N refused = record { hops = 0; spent = 0; node = U; number = N; refused = refused }

-- one hop more in front of a journey
abbrev pub after : ℕ → Journey → Journey
after cost j = record { hops = suc j.hops; spent = cost + j.spent; node = j.node; number = j.number; refused = j.refused }

module _ (net : Network) (t : Table) (D : ℕ) where
  -- One lookup's answer, with `rest` for the hops that are left, if any are: "At each node being delivered is tested first, then refusals 6
  -- and 7, then the limit." A hop costs "the sum of link and price".
  abbrev pub onward : ℕ → (ℕ → ℕ → Journey) → ℕ → ℕ → Result Look Refusal → Journey
  onward left rest U N (Ok Look.Delivered) = stop U N 0
  onward left rest U N (Err r) = stop U N (refusal_number r)
  onward zero rest U N (Ok (Look.Forward x)) = stop U N 8
  onward (suc left) rest U N (Ok (Look.Forward x)) = after (weight net U x.function x.next) (rest x.next x.number)

  -- "lookups in turn until delivered"
  abbrev pub journey : ℕ → ℕ → ℕ → Journey
  journey zero U N = onward zero (λ W M. stop W M 8) U N (look_at net t U D N)
  journey (suc left) U N = onward (suc left) (journey left) U N (look_at net t U D N)

-- carry: refusals 1 to 4 return zeros; "step limit above 16,384" is 4 too
unfoldable pub carry_of : Network → Table → ℕ → ℕ → List ℕ → ℕ → Journey
carry_of net t U D stack limit =
    cond (eqb (refusal net t) 0)
    (cond (ok_packet net U D stack && leb limit 16384) (journey net t D limit U (number net.p stack)) (stop 0 0 4))
    (stop 0 0 (refusal net t))

-- zeros and a refusal, where the packet does not set out
abbrev pub zeros : Refusal → Carried
zeros r = record { hops = 0; spent = 0; node = 0; number = 0; refused = Some r }

-- what carry answers is this journey
pub record Carries (j : Journey) (answer : Carried) : Type 0 where
  pub hops : answer.hops ≡ j.hops
  pub spent : answer.spent ≡ j.spent
  pub node : answer.node ≡ j.node
  pub number : answer.number ≡ j.number
  pub refused : answer.refused ≡ refused_with j.refused
