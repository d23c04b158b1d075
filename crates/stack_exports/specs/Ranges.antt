-- The ranges in which nothing is lost: every answer of a call is within them (proofs/StackAnswers.antt).
use Rattle.std.specs.Prelude.{ℕ, ◌<◌, ◌≤◌, ◌^◌, Result, Ok, Err, Option, Some, None}
use Rattle.refusal.specs.declared.Refusal.{Refusal}

abbrev pub AnswerFits : Result ℕ Refusal → Type 0
AnswerFits (Ok value) = value < 2 ^ 62
AnswerFits (Err refusal) = Unit {0}

abbrev pub AfterFits : Result (Option ℕ) Refusal → Type 0
AfterFits (Ok (Some number)) = (1 ≤ number) × (number < 2 ^ 62)
AfterFits (Ok None) = Unit {0}
AfterFits (Err refusal) = Unit {0}
