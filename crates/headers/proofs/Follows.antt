-- What is read from one header on, case by case.
use Prim.Native.Nat.{ℕ, zero, suc, ◌+◌, ◌-◌, ◌≤◌}
use native.Mathlib.Numerals.{add-one}
use native.Mathlib.Omega.{arith}
use mathlib.Core.Path.{◌≡◌}
use mathlib.Core.List.{List, ◌∷◌}
use borrow.Author.Tests.{eq-eqb, ne_eqb}
use Rattle.header.specs.Fields.{announces, protocol, next, inside, end}
use Rattle.header.specs.Answers.{header_refusal}
use Rattle.headers.specs.Chains.{found, refused, follow}

module _ (packet : List ℕ) (announced k s e : ℕ) (outer : List ℕ) where
  pub follow_refused : (left : ℕ) → (header_refusal packet s announced e ≡ 0 → ⊥)
      → follow packet left announced k s e outer ≡ refused (header_refusal packet s announced e) k s
  follow_refused zero bad = simp (ne_eqb (header_refusal packet s announced e) 0 bad)
  follow_refused (suc left) bad = simp (ne_eqb (header_refusal packet s announced e) 0 bad)

  module _ (fine : header_refusal packet s announced e ≡ 0) where
    pub follow_high : (left : ℕ) → left ≡ 0 → follow packet left announced k s e outer ≡ refused 67 k s
    follow_high zero none = simp (eq-eqb (header_refusal packet s announced e) 0 fine)
    follow_high (suc left) none = absurd (omega arith)

    pub follow_ends : (left : ℕ) → 1 ≤ left → announces (next packet s) ≡ 0
        → follow packet left announced k s e outer ≡ found (protocol packet s ∷ outer) (inside packet s) (end packet s)
    follow_ends zero some last = absurd (omega arith)
    follow_ends (suc left) some last = simp (eq-eqb (header_refusal packet s announced e) 0 fine, eq-eqb (announces (next packet s)) 0 last)

    pub follow_on : (left : ℕ) → 1 ≤ left → (announces (next packet s) ≡ 0 → ⊥)
        → follow packet left announced k s e outer
        ≡ follow packet (left - 1) (announces (next packet s)) (k + 1) (inside packet s) (end packet s) (protocol packet s ∷ outer)
    follow_on zero some more = absurd (omega arith)
    follow_on (suc left) some more =
        let one : suc left - 1 ≡ left = omega arith in
        rw (one, add-one k) (simp (eq-eqb (header_refusal packet s announced e) 0 fine, ne_eqb (announces (next packet s)) 0 more))
