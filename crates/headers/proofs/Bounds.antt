-- How high a chain's stack is, and where its part lies.
use Prim.Native.Nat.{ℕ, ◌≤◌, ◌<◌}
use native.Mathlib.Omega.{arith}
use mathlib.Core.Path.{◌≡◌}
use mathlib.Core.List.{List, [], ◌∷◌, ◌++◌}
use mathlib.Core.Bool.{true}
use lib.ListN.{length, length-append}
use lib.Dec.{ltb}
use borrow.Author.Tests.{lt-ltb}
use Rattle.lists.proofs.Tests.{both}
use Rattle.stacks.specs.Stacks.{below, ok_stack}
use Rattle.stacks.proofs.Tests.{good_ok}
use Rattle.header.specs.Fields.{protocol}
use Rattle.headers.specs.Chains.{Chain, innermost, around, Reads}
use Rattle.header.proofs.Lengths.{two_protocols, header_fits, length_fits}

below_snoc : (p q : ℕ) (stack : List ℕ) → below p stack ≡ true → q < p → below p (stack ++ (q ∷ [])) ≡ true
below_snoc p q [] b small = simp (lt-ltb q p small)
below_snoc p q (x ∷ stack) b small =
    let d = both (ltb x p) (below p stack) b in
    simp d.0 (below_snoc p q stack d.1 small)

module _ (packet : List ℕ) where
  chain_below : {announced s e from to : ℕ} {stack : List ℕ} → Chain packet announced s e stack from to → below 2 stack ≡ true
  chain_below (innermost announced s e r last) = simp (lt-ltb (protocol packet s) 2 (two_protocols packet s))
  chain_below (around announced s e v from to inner r more c) = below_snoc 2 (protocol packet s) inner (chain_below c) (two_protocols packet s)

  chain_some : {announced s e from to : ℕ} {stack : List ℕ} → Chain packet announced s e stack from to → 1 ≤ length stack
  chain_some (innermost announced s e r last) = omega arith
  chain_some (around announced s e v from to inner r more c) = omega (arith, length-append inner (protocol packet s ∷ []))

  pub chain_part : {announced s e from to : ℕ} {stack : List ℕ} → Chain packet announced s e stack from to → (from ≤ to) × (to ≤ e)
  chain_part (innermost announced s e r last) = (omega (arith, header_fits packet s r.header), length_fits packet s e r.length)
  chain_part (around announced s e v from to inner r more c) =
      let p = chain_part c in
      (p.0, omega (arith, p.1, length_fits packet s e r.length))

module _ (h : ℕ) (packet stack : List ℕ) (from to : ℕ) (r : Reads h packet stack from to) where
  pub height : (1 ≤ length stack) × (length stack ≤ h)
  height = (chain_some packet r.chain, r.low)

  pub a_stack : ok_stack 2 h stack ≡ true
  a_stack = good_ok 2 h stack (record { small = chain_below packet r.chain; some = height.0; low = height.1 })

  pub part : (from ≤ to) × (to ≤ length packet)
  part = chain_part packet r.chain
