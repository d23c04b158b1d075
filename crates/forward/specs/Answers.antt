-- What lookup and look answer, for every input: these are the contracts.
use Rattle.std.specs.Prelude.{ℕ, ◌%◌, List, Bool, cond, ◌&&◌, get_or, leb, ltb, eqb, Result, Ok, Err}
use Rattle.refusal.specs.declared.Refusal.{Refusal}
use Rattle.refusal.specs.Numbers.{refusal_number, named}
use Rattle.stacks.specs.Stacks.{one_to, number}
use Rattle.functions.specs.Answers.{moved_of, number_after}
use Rattle.network.specs.Network.{Network}
use Rattle.table.specs.Table.{Table, place_in, home}
use Rattle.table.specs.Answers.{refusal}
use Rattle.packet.specs.Packet.{ok_packet}
use Rattle.forward.specs.Forward.{ok_way, answer, look_at}
use Rattle.forward.specs.declared.Look.{Look}

-- lookup: refusals 1 to 4, and then the lookup
abbrev pub lookup_of : Network → Table → ℕ → ℕ → List ℕ → Result Look Refusal
lookup_of net t U D stack =
    cond (eqb (refusal net t) 0) (cond (ok_packet net U D stack) (look_at net t U D (number net.p stack)) (Err Refusal.Range)) (Err (named (refusal net t)))

-- sizes within which rows can be counted, and a row's numbers: "node not below n, .. stack number 0 or above S" is refusal 4
unfoldable pub ok_place : ℕ → ℕ → ℕ → ℕ → ℕ → Bool
ok_place n s U D N = leb n 32 && (leb s 16384 && (ltb U n && (ltb D n && one_to s N)))

-- what U's row with cost c and way w answers, where there are s stacks: its function makes what `moved` makes of stack number N
abbrev pub row_answer : Network → ℕ → Bool → ℕ → ℕ → ℕ → ℕ → Result Look Refusal
row_answer net s delivered U N c w = let M = number_after (moved_of net.p s (w % 256) N) in answer delivered (ok_way net U c w M) c w M

-- look: for whoever has worked out how many stacks there are: where s is S it answers what lookup does once its tests are made (the law look-is)
abbrev pub look_of : Network → ℕ → List ℕ → List ℕ → ℕ → ℕ → ℕ → Result Look Refusal
look_of net s cost way U D N =
    let at = place_in net.n s U D N in
    cond (ok_place net.n s U D N) (row_answer net s (home net U D N) U N (get_or cost at 0) (get_or way at 0)) (Err Refusal.Range)

-- "A refusal returns its number and zeros": the refusal number of a lookup's answer, 0 where nothing is refused, and the values that go with it.
abbrev pub look_refusal : Result Look Refusal → ℕ
look_refusal (Ok Look.Delivered) = 0
look_refusal (Ok (Look.Forward x)) = 0
look_refusal (Err r) = refusal_number r

-- next node, function, resulting stack number and cost; a resulting stack number of 0, which no forward has, where the packet is delivered
pub record Onward : Type 0 where
  pub next : ℕ
  pub function : ℕ
  pub number : ℕ
  pub cost : ℕ

abbrev pub look_onward : Result Look Refusal → Onward
look_onward (Ok Look.Delivered) = record { next = 0; function = 0; number = 0; cost = 0 }
look_onward (Ok (Look.Forward x)) = record { next = x.next; function = x.function; number = x.number; cost = x.cost }
look_onward (Err r) = record { next = 0; function = 0; number = 0; cost = 0 }
