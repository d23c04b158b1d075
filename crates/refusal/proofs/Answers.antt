-- From an answer that may be a refusal back to the test that led to it.
use Rattle.std.specs.Prelude.{ℕ, Bool, true, false, cond, ◌≡◌, Ok, Err}
use native.Mathlib.Omega.{arith}
use mathlib.Core.Path.{refl}
use lib.Dec.{eqb}
use borrow.Author.Tests.{eqb-true}
use Rattle.refusal.specs.declared.Refusal.{Refusal}
use Rattle.refusal.specs.Numbers.{named, answered}

pub tested_ok : {A : Type 0} (b : Bool) (x y : A) (r : Refusal) → Ok y ≡ cond b (Ok x) (Err r) → (b ≡ true) × (y ≡ x)
tested_ok true x y r e = (refl, (cc))
tested_ok false x y r e = absurd (let z : ◌≡◌ {A = ℕ} 0 1 = cc in omega arith)

pub tested_err : {A : Type 0} (b : Bool) (x : A) (r s : Refusal) → Err s ≡ cond b (Ok x) (Err r) → (b ≡ false) × (s ≡ r)
tested_err true x r s e = absurd (let z : ◌≡◌ {A = ℕ} 0 1 = cc in omega arith)
tested_err false x r s e = (refl, (cc))

pub answered_ok : {A : Type 0} (r : ℕ) (x y : A) → Ok y ≡ answered r x → (r ≡ 0) × (y ≡ x)
answered_ok r x y e = go (eqb r 0) refl e
  where
    go : (t : Bool) → eqb r 0 ≡ t → Ok y ≡ cond t (Ok x) (Err (named r)) → (r ≡ 0) × (y ≡ x)
    go true z e = (eqb-true r 0 z, (cc))
    go false z e = absurd (let o : ◌≡◌ {A = ℕ} 0 1 = cc in omega arith)

pub answered_err : {A : Type 0} (r : ℕ) (x : A) (s : Refusal) → Err s ≡ answered r x → (eqb r 0 ≡ false) × (s ≡ named r)
answered_err r x s e = tested_err (eqb r 0) x (named r) s e
