-- What a private function answers on the way; no public contract cites it.
use Rattle.std.specs.Prelude.{ℕ, ◌+◌, ◌*◌, List, [], ◌∷◌, cond, ltb}
use Rattle.std.specs.Prelude.{Result, Ok, Err}
use Rattle.refusal.specs.declared.Refusal.{Refusal}

-- the number of a stack from the number n of its lower part and the protocols that are left, refused at one that is not below p
abbrev pub scan : ℕ → ℕ → List ℕ → Result ℕ Refusal
scan p n [] = Ok n
scan p n (q ∷ s) = cond (ltb q p) (scan p (p * n + q + 1) s) (Err Refusal.Range)
