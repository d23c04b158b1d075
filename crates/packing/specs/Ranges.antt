-- The range of a refusal: every refusal of a call is within it.
use Rattle.std.specs.Prelude.{ℕ, ◌≤◌}

-- a refusal's number
pub record RefusalFits (refusal : ℕ) : Type 0 where
  pub some : 1 ≤ refusal
  pub most : refusal ≤ 67
