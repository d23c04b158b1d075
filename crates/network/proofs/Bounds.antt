-- Places in the link grid, and products of a network's numbers: none wraps. Each law is stated for any numbers in range, whatever they are numbers of.
use Prim.Native.Nat.{ℕ, ◌+◌, ◌*◌, ◌≤◌, ◌<◌}
use native.Mathlib.Nat.{mul-le-mul}
use native.Mathlib.Omega.{arith}
use mathlib.Core.Path.{◌≡◌}
use mathlib.Core.Bool.{true}
use lib.Arith.{digits_lt}
use mir.Syntax.{w64}
use mir.Val.{Fits}
use Rattle.stacks.specs.Stacks.{ok_size, count}
use Rattle.stacks.proofs.Count.{count_fits}
use Rattle.stacks.proofs.Tests.{sizes}

-- a link's place is inside the square grid
pub link_place : (n U W : ℕ) → U < n → W < n → U * n + W < n * n
link_place n U W u w = digits_lt u w

pub product_bound : (x y a b : ℕ) → x ≤ a → y ≤ b → x * y ≤ a * b
product_bound x y a b h l = mul-le-mul h l

pub square_small : (p : ℕ) → p ≤ 8 → p * p ≤ 64
square_small p low = product_bound p p 8 8 low low

-- how many stacks there are, where there are any
pub counted_low : (p h : ℕ) → ok_size p h ≡ true → (count p h ≤ 78536544840) × (p ≤ 8)
counted_low p h e = let z = sizes p h e in (count_fits p h z.few z.low, z.few)

-- a product whose bound is too small to wrap
pub product_fits : (x y : ℕ) → x ≤ 1024 → y ≤ 78536544840 → Fits w64 (x * y)
product_fits x y h l = omega (arith, product_bound x y 1024 78536544840 h l)

pub place_fits : (x y z : ℕ) → x ≤ 1024 → y ≤ 1024 → z ≤ 1024 → Fits w64 (x * y + z)
place_fits x y z h l k = omega (arith, product_bound x y 1024 1024 h l)
