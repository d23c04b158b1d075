-- From an answer back to the test that led to it.
use Prim.Native.Nat.{ℕ}
use native.Mathlib.Omega.{arith}
use mathlib.Core.Path.{◌≡◌, refl}
use mathlib.Core.Bool.{Bool, true, false, cond}
use Rattle.stacks.specs.Stacks.{ok_size, count}
use Rattle.stacks.specs.Answers.{count_of}
use Rattle.std.specs.Prelude.{Ok, Err}
use Rattle.refusal.specs.declared.Refusal.{Refusal}

pub cond_value : (b : Bool) (x n : ℕ) → cond b (Ok x) (Err Refusal.Range) ≡ Ok n → (b ≡ true) × (x ≡ n)
cond_value true x n e = (refl, (cc))
cond_value false x n e = absurd (let z : ◌≡◌ {A = ℕ} 0 1 = cc in omega arith)

pub cond_refused : (b : Bool) (x : ℕ) (r : Refusal) → cond b (Ok x) (Err Refusal.Range) ≡ Err r → (b ≡ false) × (Refusal.Range ≡ r)
cond_refused true x r e = absurd (let z : ◌≡◌ {A = ℕ} 0 1 = cc in omega arith)
cond_refused false x r e = (refl, (cc))

-- of how many stacks there are
pub counted : (p h m : ℕ) → count_of p h ≡ Ok m → (ok_size p h ≡ true) × (count p h ≡ m)
counted p h m e = cond_value (ok_size p h) (count p h) m e

pub uncounted : (p h : ℕ) (r : Refusal) → count_of p h ≡ Err r → (ok_size p h ≡ false) × (Refusal.Range ≡ r)
uncounted p h r e = cond_refused (ok_size p h) (count p h) r e
