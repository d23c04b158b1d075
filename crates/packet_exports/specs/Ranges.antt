-- The ranges in which nothing is lost: every answer of a lookup is within them (proofs/Looked.antt).
use Rattle.std.specs.Prelude.{ℕ, ◌<◌, ◌≤◌, Result, Ok, Err}
use Rattle.refusal.specs.declared.Refusal.{Refusal}
use Rattle.table.specs.Table.{ceiling}
use Rattle.forward.specs.declared.Look.{Look}

pub record ForwardFits (next function number cost : ℕ) : Type 0 where
  pub hops : next < 32
  pub applies : function < 192
  pub numbered : number ≤ 16384
  pub priced : cost ≤ ceiling

abbrev pub LookFits : Result Look Refusal → Type 0
LookFits (Ok Look.Delivered) = Unit {0}
LookFits (Ok (Look.Forward hop)) = ForwardFits hop.next hop.function hop.number hop.cost
LookFits (Err refusal) = Unit {0}
