-- The number of a stack that gets a protocol below it.
use Prim.Native.Nat.{ℕ, ◌+◌, ◌*◌, ◌^◌, ◌≤◌}
use native.Mathlib.Nat.{mul-add, mul_assoc, pow-suc, zero-add}
use native.Mathlib.Omega.{arith}
use mathlib.Core.Path.{◌≡◌, ap}
use mathlib.Core.List.{List, [], ◌∷◌}
use mathlib.Core.Bool.{true}
use lib.ListN.{length}
use lib.Pow.{pow_mono}
use Rattle.stacks.specs.Stacks.{below, number, number_from}
use Rattle.stacks.proofs.Numbers.{number_high}

-- what one more protocol makes of a weight
weigh : (w n q : ℕ) → w * (2 * n + q + 1) ≡ w * 2 * n + w * (q + 1)
weigh w n q = omega (arith, mul-add w (2 * n + q) 1, mul-add w (2 * n) q, mul_assoc w 2 n, mul-add w q 1)

number_from_weighs : (n : ℕ) (s : List ℕ) → number_from 2 n s ≡ 2 ^ length s * n + number 2 s
number_from_weighs n [] = omega arith
number_from_weighs n (q ∷ s) =
    let inner : number_from 2 n (q ∷ s) ≡ 2 ^ length s * (2 * n + q + 1) + number 2 s = number_from_weighs (2 * n + q + 1) s in
    let first : number 2 (q ∷ s) ≡ 2 ^ length s * (q + 1) + number 2 s = rw (zero-add q) (number_from_weighs (q + 1) s) in
    let twice : 2 ^ length (q ∷ s) * n ≡ 2 ^ length s * 2 * n = ap (λ (w : ℕ). w * n) (pow-suc 2 (length s)) in
    omega (arith, weigh (2 ^ length s) n q)

-- a protocol below the others adds their weight once or twice
pub number_under : (q : ℕ) (outer : List ℕ) → number 2 (q ∷ outer) ≡ number 2 outer + 2 ^ length outer * (q + 1)
number_under q outer = rw (zero-add q) (omega (arith, number_from_weighs (q + 1) outer))

-- the numbers and the weights are small
pub number_small : (s : List ℕ) → below 2 s ≡ true → length s ≤ 12 → number 2 s ≤ 8190
number_small s small low = (number_high 2 12 s small).1 low

pub weight_small : (k : ℕ) → k ≤ 12 → 2 ^ k ≤ 4096
weight_small k low = pow_mono low
