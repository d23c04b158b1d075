-- The place of a word in the function grids: no number on the way to it wraps.
use Prim.Native.Nat.{ℕ, ◌+◌, ◌*◌, ◌≤◌, ◌<◌}
use native.Mathlib.Omega.{arith}
use mir.Syntax.{w64}
use mir.Val.{Fits}
use Rattle.network.proofs.Bounds.{product_bound}

-- "for each node three square grids": the numbers that lead to row a of a node's grid of a kind, of which there are at most 768
pub record RowFits (U kind p a : ℕ) : Type 0 where
  pub grids : Fits w64 (U * 3)
  pub grid : Fits w64 (U * 3 + kind)
  pub rows : Fits w64 ((U * 3 + kind) * p)
  pub row : Fits w64 ((U * 3 + kind) * p + a)
  pub low : (U * 3 + kind) * p + a ≤ 767

pub row_fits : (n U kind p a : ℕ) → n ≤ 32 → U < n → p ≤ 8 → kind ≤ 2 → a < p → RowFits U kind p a
row_fits n U kind p a few node low kinds from =
    let rows = product_bound (U * 3 + kind) p 95 8 (omega arith) low in
    record { grids = omega arith; grid = omega arith; rows = omega arith; row = omega arith; low = omega arith }
