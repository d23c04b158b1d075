-- The ranges in which nothing is lost: every answer of a call is within them (proofs/Answered.antt).
use Rattle.std.specs.Prelude.{ℕ, ◌<◌, ◌≤◌, Result, Ok, Err, Option, Some, None}
use Rattle.refusal.specs.declared.Refusal.{Refusal}
use Rattle.table.specs.declared.Message.{Message}

-- a receiver is a bit below 32; 32 is let in so that no law has to ask that a word of the table fits 32 bits
pub record MessageFits (sender receiver destination number : ℕ) : Type 0 where
  pub sends : sender < 32
  pub hears : receiver ≤ 32
  pub known : destination < 32
  pub numbered : number ≤ 16384

-- "at most 16,777,216"
abbrev pub CountedFits : Result ℕ Refusal → Type 0
CountedFits (Ok messages) = messages ≤ 16777216
CountedFits (Err refusal) = Unit {0}

abbrev pub FoundFits : Option Message → Type 0
FoundFits (Some m) = MessageFits m.sender m.receiver m.destination m.number
FoundFits None = Unit {0}

abbrev pub FirstFits : Result (Option Message) Refusal → Type 0
FirstFits (Ok found) = FoundFits found
FirstFits (Err refusal) = Unit {0}
