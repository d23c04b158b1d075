-- THE EXAMPLES P1 to P12 of the specification, one table, over its small network. proofs/Examples.antt computes them.
use Rattle.std.specs.Prelude.{ℕ, ◌≡◌, [], ◌∷◌, get_or, Ok, Err}
use Rattle.refusal.specs.declared.Refusal.{Refusal}
use Rattle.stacks.specs.Stacks.{number, count}
use Rattle.functions.specs.Functions.{apply, cannot}
use Rattle.words.specs.Words.{ones_in}
use Rattle.network.specs.SmallNetwork.{a, b, wrap_a_in_b, smallnet}
use Rattle.table.specs.Table.{Table, place, fresh}
use Rattle.table.specs.Answers.{deliver_answer, deliver_table}
use Rattle.table.specs.Run.{run_of}
use Rattle.carry.specs.Carry.{Journey, carry_of}
use Rattle.forward.specs.Answers.{lookup_of}

-- after the delivery from 3 to 2 about (3, a), and once no message waits
abbrev pub heard : Table
heard = deliver_table smallnet (fresh smallnet) 3 2 3 (number 2 (a ∷ []))

abbrev pub quiet : Table
quiet = (run_of smallnet 100 (fresh smallnet)).table

-- a carry's outcome: hops, cost spent, the node and stack number reached, and the refusal or 0
abbrev pub came : ℕ → ℕ → ℕ → ℕ → ℕ → Journey
came hops spent node number refused = record { hops = hops; spent = spent; node = node; number = number; refused = refused }

pub record Examples : Type 0 where
  -- "p=2: a is 1, b is 2"
  pub P1 : (number 2 (a ∷ []) ≡ 1) × (number 2 (b ∷ []) ≡ 2)
  -- "ab is 4, ba is 5"
  pub P2 : (number 2 (a ∷ b ∷ []) ≡ 4) × (number 2 (b ∷ a ∷ []) ≡ 5)
  -- "aba is 9"
  pub P3 : number 2 (a ∷ b ∷ a ∷ []) ≡ 9
  -- "h=3: S is 14, bbb is 14"
  pub P4 : (count 2 3 ≡ 14) × (number 2 (b ∷ b ∷ b ∷ []) ≡ 14)
  -- "smallnet fresh: 6 waiting"
  pub P5 : ones_in (fresh smallnet).waiting ≡ 6
  -- "then 3 to 2 about (3, a): one row, (2,3,ab), cost 2; 7 waiting"
  pub P6 : (deliver_answer smallnet (fresh smallnet) 3 2 3 (number 2 (a ∷ [])) ≡ Ok 1)
      × (get_or heard.cost (place smallnet 2 3 (number 2 (a ∷ b ∷ []))) 0 ≡ 2) × (ones_in heard.waiting ≡ 7)
  -- "the same again: 5", and the table stays
  pub P7 : (deliver_answer smallnet heard 3 2 3 (number 2 (a ∷ [])) ≡ Err Refusal.NoMessage) × (deliver_table smallnet heard 3 2 3 (number 2 (a ∷ [])) ≡ heard)
  -- the run to quiet takes 14 deliveries; "quiet, carry 0 to 3 with a: 3 hops, 12"
  pub P8 : ((run_of smallnet 100 (fresh smallnet)).done ≡ 14) × (ones_in quiet.waiting ≡ 0)
      × (carry_of smallnet quiet 0 3 (a ∷ []) 16384 ≡ came 3 12 3 (number 2 (a ∷ [])) 0)
  -- "the same with limit 2: refusal 8, 2 hops, 10 spent, at node 2 with ab; limit 3 delivers"
  pub P9 : (carry_of smallnet quiet 0 3 (a ∷ []) 2 ≡ came 2 10 2 (number 2 (a ∷ b ∷ [])) 8)
      × (carry_of smallnet quiet 0 3 (a ∷ []) 3 ≡ came 3 12 3 (number 2 (a ∷ [])) 0)
  -- "carry 3 to 3 with a, limit 0: 0 hops, 0"
  pub P10 : carry_of smallnet quiet 3 3 (a ∷ []) 0 ≡ came 0 0 3 (number 2 (a ∷ [])) 0
  -- "lookup 0 to 2 with a: 6"
  pub P11 : lookup_of smallnet quiet 0 2 (a ∷ []) ≡ Err Refusal.NoRoute
  -- "wrap a in b on ab: not applicable": the top is b and not a, at any height bound
  pub P12 : (apply 2 wrap_a_in_b (a ∷ b ∷ []) ≡ cannot) × (apply 12 wrap_a_in_b (a ∷ b ∷ []) ≡ cannot)
