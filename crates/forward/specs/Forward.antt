-- Where a packet goes next: the part "Lookup" of the specification, once refusals 1 to 4 are tested.
use Rattle.std.specs.Prelude.{ℕ, ◌/◌, ◌%◌, Bool, cond, ◌&&◌, get_or, leb, ltb, eqb, Result, Ok, Err}
use Rattle.refusal.specs.declared.Refusal.{Refusal}
use Rattle.functions.specs.Answers.{applied_of, number_after}
use Rattle.network.specs.Network.{Network, stacks, present}
use Rattle.gateways.specs.Gateways.{can}
use Rattle.table.specs.Table.{Table, no_row, ceiling, cost_in, place, home}
use Rattle.forward.specs.declared.Hop.{Hop}
use Rattle.forward.specs.declared.Look.{Look}

-- a hop, and the answer that a packet makes it
abbrev pub hop : ℕ → ℕ → ℕ → ℕ → Hop
hop W f M c = record { next = W; function = f; number = M; cost = c }

abbrev pub forward : ℕ → ℕ → ℕ → ℕ → Result Look Refusal
forward W f M c = Ok (Look.Forward (hop W f M c))

-- Where this fails of U's row, with cost c and way w, whose function makes stack number M, refusal 7 is given: "cost 0 or above the ceiling,
-- or the way names no node, link or available applicable function"
abbrev pub ok_way : Network → ℕ → ℕ → ℕ → ℕ → Bool
ok_way net U c w M = leb 1 c && (leb c ceiling && (present net U (w / 256) && (can net U (w % 256) && ltb 0 M)))

-- "Delivered if U is D and the stack is one protocol that D accepts, whatever the table holds. Otherwise the row's next node, function,
-- resulting stack number and cost."
abbrev pub answer : Bool → Bool → ℕ → ℕ → ℕ → Result Look Refusal
answer delivered ok c w M =
    cond delivered (Ok Look.Delivered)
    (cond (eqb c no_row) (Err Refusal.NoRoute)
    (cond ok (forward (w / 256) (w % 256) M c) (Err Refusal.Broken)))

module _ (net : Network) (t : Table) where
  -- the row of node U, destination D and stack number N
  abbrev pub cost_of : ℕ → ℕ → ℕ → ℕ
  cost_of U D N = cost_in net.n (stacks net) t U D N

  abbrev pub way_of : ℕ → ℕ → ℕ → ℕ
  way_of U D N = get_or t.way (place net U D N) 0

  -- "way, 16 bits: 256 x next node + function number"
  abbrev pub next_of : ℕ → ℕ → ℕ → ℕ
  next_of U D N = way_of U D N / 256

  abbrev pub function_of : ℕ → ℕ → ℕ → ℕ
  function_of U D N = way_of U D N % 256

  -- the number of the stack that the row's function makes; 0 where it is not applicable
  abbrev pub result_of : ℕ → ℕ → ℕ → ℕ
  result_of U D N = number_after (applied_of net.p net.h (function_of U D N) N)

  unfoldable pub ok_row : ℕ → ℕ → ℕ → Bool
  ok_row U D N = ok_way net U (cost_of U D N) (way_of U D N) (result_of U D N)

  unfoldable pub look_at : ℕ → ℕ → ℕ → Result Look Refusal
  look_at U D N = answer (home net U D N) (ok_row U D N) (cost_of U D N) (way_of U D N) (result_of U D N)
