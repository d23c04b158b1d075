-- One turn of a run, as a private function answers it; no public contract cites it.
use Rattle.std.specs.Prelude.{ℕ, ◌+◌, ◌*◌, ◌≤◌, ◌≡◌, List, cond, get_or, set, replicate, ltb, Result, Ok, Err, Option, Some, None}
use Rattle.lists.specs.Lists.{tabulate}
use Rattle.bits.specs.Bits.{with_one}
use Rattle.words.specs.Words.{first_in}
use Rattle.words.specs.declared.Found.{Found}
use Rattle.refusal.specs.declared.Refusal.{Refusal}
use Rattle.network.specs.Network.{Network, stacks, refusal_of}
use Rattle.table.specs.Table.{Table, Sized, node_at, destination_at, number_at}
use Rattle.table.specs.Run.{RunOutcome}
use Rattle.hear.specs.declared.Gateway.{Gateway}
use Rattle.step.specs.InNetwork.{gateway_at, step_answer, step_table}
use Rattle.run.specs.Flags.{Flagged}

-- what the turns may count on, since `ready` tested it: the network is right, has s stacks, and its table the right lengths
pub record Prepared (net : Network) (s : ℕ) (t : Table) : Type 0 where
  pub network : refusal_of net ≡ 0
  pub stacks_are : s ≡ stacks net
  pub sized : Sized net t

-- of which the code needs this
pub record Countable (n s waits : ℕ) : Type 0 where
  pub few : n * (n * s) ≤ 524288
  pub long : waits ≡ n * (n * s)
  pub nodes : 1 ≤ n
  pub some : 1 ≤ s
  pub low : s ≤ 16384

-- the gateway that stands for a number that is no node: it has no neighbour and no function
abbrev pub nobody : ℕ → ℕ → Gateway
nobody p s =
    let none = replicate 8 (replicate 8 0) in
    record { p = p; most = s; neighbours = 0; convert = none; wrap = none; unwrap = none }

-- the gateways are the nodes of the network, each as the one that hears
abbrev pub AllEquipped : Network → ℕ → List Gateway → Type 0
AllEquipped net s gateways = gateways ≡ tabulate 32 (gateway_at net s)

-- what a turn did: how many rows took an offer; None where no message waits; or why the delivery is refused
abbrev pub Turn : Type 0
Turn = Result (Option ℕ) Refusal

-- the delivery's answer as the turn's
abbrev pub turn_of : Result ℕ Refusal → Turn
turn_of (Ok offers) = Ok (Some offers)
turn_of (Err r) = Err r

module _ (net : Network) (t : Table) where
  -- what the turn finds, and the table after it
  abbrev pub turn_at : Option Found → Turn
  turn_at None = Ok None
  turn_at (Some f) = turn_of (step_answer net t (node_at net f.word) f.bit (destination_at net f.word) (number_at net f.word))

  abbrev pub table_at : Option Found → Table
  table_at None = t
  table_at (Some f) = step_table net t (node_at net f.word) f.bit (destination_at net f.word) (number_at net f.word)

  abbrev pub turn_answer : Turn
  turn_answer = turn_at (first_in t.waiting)

  abbrev pub turn_table : Table
  turn_table = table_at (first_in t.waiting)

-- the flags after a delivery to U about D, of which so many rows took an offer
abbrev pub flags_after : List ℕ → ℕ → ℕ → ℕ → List ℕ
flags_after flags U D offers = cond (ltb 0 offers) (set flags U (with_one (get_or flags U 0) D)) flags

-- what `take_turn` answers and leaves: the table, and flags that are right for it
pub record Turned (net : Network) (s : ℕ) (t : Table) (answer : Turn) (after : Table) (flags : List ℕ) : Type 0 where
  pub answers : answer ≡ turn_answer net t
  pub table : after ≡ turn_table net t
  pub flagged : Flagged net.n s flags after.waiting

-- a run that goes on after d deliveries with o offers
abbrev pub continued : ℕ → ℕ → RunOutcome → RunOutcome
continued d o rest = record { done = d + rest.done; offers = o + rest.offers; refused = rest.refused; table = rest.table }
