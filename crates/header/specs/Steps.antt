-- What a private function answers on the way; no public contract cites it.
use Rattle.std.specs.Prelude.{ℕ, cond, eqb, Result, Ok, Err}
use Rattle.refusal.specs.declared.Refusal.{Refusal}
use Rattle.refusal.specs.Numbers.{named}

-- whether the tests passed, of which 0 or this refusal came
abbrev pub verdict : ℕ → Result (Unit {0}) Refusal
verdict refusal = cond (eqb refusal 0) (Ok tt) (Err (named refusal))
