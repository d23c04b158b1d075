-- A graph of two vertices that meets the laws, and its one delivery: the theory is not empty.
use Prim.Native.Nat.{ℕ, zero, suc, ◌≤◌, ◌<◌}
use mathlib.Core.Path.{◌≡◌, refl}
use mathlib.Core.Bool.{Bool, true, false, false≢true}
use native.Mathlib.Omega.{arith}
use Rattle.relax.specs.Graph.{Graph, Lawful, State, Takes, Reach, fresh, more, deliver}
use Rattle.relax.proofs.Laws.{below_wins}
use Rattle.relax.proofs.Act.{start, start_fresh, act, act_delivers}

-- 1 → 0, for 1; each vertex is a gateway, 0 sends to 1, and packets are delivered at 0
abbrev weighs : ℕ → ℕ → ℕ
weighs zero v = 0
weighs (suc zero) zero = 1
weighs (suc zero) (suc v) = 0
weighs (suc (suc u)) v = 0

abbrev sends : ℕ → ℕ → Bool
sends zero zero = false
sends zero (suc zero) = true
sends zero (suc (suc U)) = false
sends (suc Q) U = false

abbrev homes : ℕ → Bool
homes zero = true
homes (suc v) = false

abbrev pub two : Graph
two = record { size = 2; dearest = 1; weight = weighs; node = λ v. v; neighbour = sends; home = homes }

-- ---- the laws, vertex by vertex
hop_from : (u v : ℕ) → 0 < weighs u v → u < 2
hop_from zero v p = omega arith
hop_from (suc zero) v p = omega arith
hop_from (suc (suc u)) v p = absurd (omega arith)

hop_most : (u v : ℕ) → 0 < weighs u v → weighs u v ≤ 1
hop_most zero v p = omega arith
hop_most (suc zero) zero p = omega arith
hop_most (suc zero) (suc v) p = omega arith
hop_most (suc (suc u)) v p = omega arith

hop_heard : (u v : ℕ) → 0 < weighs u v → sends v u ≡ true
hop_heard zero v p = absurd (omega arith)
hop_heard (suc zero) zero p = refl
hop_heard (suc zero) (suc v) p = absurd (omega arith)
hop_heard (suc (suc u)) v p = absurd (omega arith)

home_below : (v : ℕ) → homes v ≡ true → v < 2
home_below zero e = omega arith
home_below (suc v) e = absurd (false≢true e)

pub two_lawful : Lawful two
two_lawful = record { room = omega arith; hop_from = hop_from; hop_most = hop_most; hop_heard = hop_heard; home_below = home_below }

-- ---- the start, and what the one message makes of it
pub begun : State
begun = start two

pub ended : State
ended = act two begun 0 1

offers : Takes two begun 0 1 1
unfolding begun start
offers = record { mine = refl; hop = omega arith; better = below_wins _ _ (omega arith) }

pub ended_reached : Reach two ended
unfolding begun ended start
ended_reached = more (fresh (start_fresh two)) (deliver 0 1 (act_delivers two begun 0 1 refl))

-- vertex 1 learns that it can deliver for 1
pub ended_cost : ended.cost 1 ≡ 1
unfolding begun ended start
ended_cost = (act_delivers two begun 0 1 refl).take_cost 1 offers
