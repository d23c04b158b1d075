-- `forward::row::look` meets its contract: where the numbers are in range the row's place is worked out without wrapping.
use native.Mathlib.Omega.{arith}
use mathlib.Core.Path.{sym}
use Rattle.forward.proofs.Looks.{Room, room}
use Rattle.forward.proofs.row.look.Goals as goal
use Rattle.forward.proofs.row.look.Goals.{Else-not-good_place}

fits : (c : Else-not-good_place) → let a = c.args in Room a.net.now.n a.stacks a.node a.destination a.number
fits c = let a = c.args in room a.net.now.n a.stacks a.node a.destination a.number (sym c.if-not-good_place.ensures)

pub is_home-requires : goal.is_home-requires
is_home-requires c = (fits (goal.at.is_home-requires c).Else-not-good_place).some

pub overflow_mul-at : goal.overflow_mul-at
overflow_mul-at c = omega (arith, fits (goal.at.overflow_mul-at c).Else-not-good_place)

pub overflow_add-at : goal.overflow_add-at
overflow_add-at c = omega (arith, fits (goal.at.overflow_add-at c).Else-not-good_place)

pub overflow_mul-at-2 : goal.overflow_mul-at-2
overflow_mul-at-2 c = omega (arith, fits (goal.at.overflow_mul-at-2 c).Else-not-good_place)

pub overflow_sub-at : goal.overflow_sub-at
overflow_sub-at c = omega (arith, fits (goal.at.overflow_sub-at c).Else-not-good_place)

pub overflow_add-at-2 : goal.overflow_add-at-2
overflow_add-at-2 c = omega (arith, fits (goal.at.overflow_add-at-2 c).Else-not-good_place)
