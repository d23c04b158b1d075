-- A hearing by computation, that of example P6 with the whole rows: node 2 of smallnet, fresh, hears from node 3 about destination 3 and stack a.
use Prim.Native.Nat.{ℕ, ◌+◌, ◌-◌, ◌*◌}
use mathlib.Core.Path.{◌≡◌, refl}
use mathlib.Core.List.{List}
use mathlib.Core.Bool.{cond}
use lib.ListN.{set}
use lib.Dec.{eqb}
use Rattle.std.specs.Prelude.{Ok, Err}
use Rattle.lists.specs.Lists.{tabulate, first_below, how_many}
use Rattle.refusal.specs.declared.Refusal.{Refusal}
use Rattle.relax.specs.Graph.{wins}
use Rattle.functions.specs.Functions.{ok_function}
use Rattle.functions.specs.Answers.{ok_move}
use Rattle.bits.specs.Bits.{with_all}
use Rattle.hear.specs.Hearing.{Gateway, Message, Rows, leads_by, leader, offer, takes, cost_at, way_at, waiting_at, heard, taken}
use Rattle.hear.specs.Answers.{gateway_of, message_of, rows_of, ok_hearing, hear_refusal, hear_answer, rows_after}

-- eight by eight words, all 0 but one
abbrev grid : ℕ → ℕ → ℕ → List (List ℕ)
grid a b word = tabulate 8 (λ i. tabulate 8 (λ j. cond (eqb (8 * i + j) (8 * a + b)) word 0))

-- p = 2 and 6 stacks; nodes 1 and 3 are its neighbours; it only unwraps a from b, at price 1
abbrev node2 : Gateway
node2 = gateway_of 2 6 10 (grid 0 0 0) (grid 0 0 0) (grid 0 1 2)

-- from node 3, about destination 3 and stack a, cost 0; 2 to 3 costs 1
abbrev from3 : Message
from3 = message_of 3 3 1 0 1

-- four destinations with six stacks each; the row of destination 2 and stack b is the delivery row
abbrev fresh : Rows
fresh = rows_of (tabulate 24 (λ j. cond (eqb j 13) 0 4294967295)) (tabulate 24 (λ j. 65535)) (tabulate 24 (λ j. cond (eqb j 13) 10 0))

-- the row that can take an offer: destination 3 and stack ab, whose number is 4
abbrev place : ℕ
place = 3 * 6 + 4 - 1

-- one row takes it, for 2, by way of node 3 with unwrap a from b, and both neighbours are to hear of it
abbrev after : Rows
after = rows_of (set fresh.costs place 2) (set fresh.ways place (256 * 3 + (128 + 8 * 0 + 1))) (set fresh.waiting place 10)

pub one_row : (hear_answer node2 from3 fresh ≡ Ok 1) × (rows_after node2 from3 fresh ≡ after)
unfolding hear_refusal ok_hearing rows_after heard taken takes cost_at way_at waiting_at leader leads_by offer tabulate first_below how_many wins ok_move
    ok_function with_all
one_row = (refl, refl)

-- the same message again offers no less, so that no row takes it
pub again : (hear_answer node2 from3 after ≡ Ok 0) × (rows_after node2 from3 after ≡ after)
unfolding hear_refusal ok_hearing rows_after heard taken takes cost_at way_at waiting_at leader leads_by offer tabulate first_below how_many wins ok_move
    ok_function with_all
again = (refl, refl)

-- a stack number that is not there, and a cost above the ceiling
pub refusals : (hear_answer node2 (message_of 3 3 7 0 1) fresh ≡ Err Refusal.Range)
    × (hear_answer node2 (message_of 3 3 1 2147303428 1) fresh ≡ Err Refusal.Broken)
    × (rows_after node2 (message_of 3 3 1 2147303428 1) fresh ≡ fresh)
unfolding hear_refusal ok_hearing rows_after heard taken takes cost_at way_at waiting_at leader leads_by offer tabulate first_below how_many wins ok_move
    ok_function with_all
refusals = (refl, refl, refl)
