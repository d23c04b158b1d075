-- What `accepts` answers, over plain variables.
use Prim.Native.Nat.{ℕ, zero, suc, ◌<◌}
use mathlib.Core.Path.{◌≡◌, refl, ap, ◌∙◌}
use mathlib.Core.List.{List}
use mathlib.Core.Bool.{Bool, true, false, ◌||◌, or-true}
use lib.Dec.{ltb}
use Rattle.lists.specs.Lists.{some}
use Rattle.lists.proofs.Tests.{some_none}
use Rattle.gateways.specs.Gateways.{word_at, receives_at}
use Rattle.gateways.proofs.Entries.{word_many}

-- three tests at each number, and each test at all numbers
or_mixed : (a b c x y z : Bool) → ((a || (b || c)) || (x || (y || z))) ≡ ((a || x) || ((b || y) || (c || z)))
or_mixed true b c x y z = refl
or_mixed false b c true y z = or-true (b || c)
or_mixed false true c false y z = refl
or_mixed false false c false true z = or-true c
or_mixed false false true false false z = refl
or_mixed false false false false false z = refl

some_or : (k : ℕ) (t u v : ℕ → Bool) → some k (λ i. t i || (u i || v i)) ≡ (some k t || (some k u || some k v))
unfolding some
some_or zero t u v = refl
some_or (suc k) t u v = ap (λ (b : Bool). b || (t k || (u k || v k))) (some_or k t u v) ∙ or_mixed (some k t) (some k u) (some k v) (t k) (u k) (v k)

module _ (n p : ℕ) (functions : List ℕ) (U x : ℕ) where
  -- with protocol y, U has a function that makes it receive x
  abbrev pub receives_by : ℕ → Bool
  receives_by y = ltb 0 (word_at n p functions U 0 x y) || (ltb 0 (word_at n p functions U 1 x y) || ltb 0 (word_at n p functions U 2 y x))

  pub received : some p receives_by ≡ receives_at n p functions U x
  unfolding receives_at
  received = some_or p (λ y. ltb 0 (word_at n p functions U 0 x y)) (λ y. ltb 0 (word_at n p functions U 1 x y)) (λ y. ltb 0 (word_at n p functions U 2 y x))

  pub many_protocols : 8 < p → receives_at n p functions U x ≡ false
  unfolding receives_at
  many_protocols many =
      simp (
        some_none p (λ b. ltb 0 (word_at n p functions U 0 x b)) (λ y low. ap (ltb 0) (word_many n p functions U 0 x y many)),
        some_none p (λ b. ltb 0 (word_at n p functions U 1 x b)) (λ y low. ap (ltb 0) (word_many n p functions U 1 x y many)),
        some_none p (λ a. ltb 0 (word_at n p functions U 2 a x)) (λ y low. ap (ltb 0) (word_many n p functions U 2 y x many)),
      )
