-- The range in which nothing is lost: every answer of a delivery is within it (proofs/Answered.antt).
use Rattle.std.specs.Prelude.{ℕ, ◌<◌, ◌^◌, Result, Ok, Err}
use Rattle.refusal.specs.declared.Refusal.{Refusal}

abbrev pub DeliveredFits : Result ℕ Refusal → Type 0
DeliveredFits (Ok rows) = rows < 2 ^ 62
DeliveredFits (Err refusal) = Unit {0}
