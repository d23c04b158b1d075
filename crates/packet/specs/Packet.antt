-- What lookup and carry are told of the packet that they are handed, for every input: the contract of `begin`.
use Rattle.std.specs.Prelude.{ℕ, ◌<◌, ◌≤◌, ◌≡◌, List, Bool, cond, ◌&&◌, length, ltb, Result, Ok, Err}
use Rattle.stacks.specs.Stacks.{ok_stack, number}
use Rattle.network.specs.Network.{Network, stacks, refusal_of}
use Rattle.table.specs.Table.{Table}
use Rattle.table.specs.Answers.{ready_of}
use Rattle.refusal.specs.declared.Refusal.{Refusal}
use Rattle.packet.specs.declared.Packet.{Packet}

-- refusal 4: "node not below n, protocol not below p, height 0 or above h"
unfoldable pub ok_packet : Network → ℕ → ℕ → List ℕ → Bool
ok_packet net U D stack = ltb U net.n && (ltb D net.n && ok_stack net.p net.h stack)

-- a packet that is not refused
abbrev pub packet : ℕ → ℕ → Packet
packet s N = record { stacks = s; number = N }

-- begin: what `ready` answers, and then refusal 4
abbrev pub packet_from : Result ℕ Refusal → Bool → ℕ → Result Packet Refusal
packet_from (Ok s) ok N = cond ok (Ok (packet s N)) (Err Refusal.Range)
packet_from (Err r) ok N = Err r

abbrev pub packet_of : Network → Table → ℕ → ℕ → List ℕ → Result Packet Refusal
packet_of net t U D stack = packet_from (ready_of net (length t.cost) (length t.way) (length t.waiting)) (ok_packet net U D stack) (number net.p stack)

-- what is so where `begin` refuses nothing: s stacks, and a packet at U for D with stack number N
pub record Placed (net : Network) (s U D N : ℕ) : Type 0 where
  pub network : refusal_of net ≡ 0
  pub stacks_are : s ≡ stacks net
  pub here : U < net.n
  pub there : D < net.n
  pub numbered : 1 ≤ N
  pub within : N ≤ stacks net
