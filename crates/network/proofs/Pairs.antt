-- Looking at each pair of nodes once, from the later of the two, is the test of all links.
use Prim.Native.Nat.{ℕ, ◌<◌}
use native.Mathlib.Decide.{dec_lt}
use native.Mathlib.Omega.{arith}
use mathlib.Core.Path.{◌≡◌, refl, sym, ap₂}
use mathlib.Core.Logic.{by_cases}
use mathlib.Core.Bool.{Bool, true, false, ◌&&◌, not, beq, false≢true, true≢false}
use lib.Dec.{eqb}
use borrow.Author.Tests.{eqb-true, eq-eqb}
use Rattle.lists.specs.Lists.{every}
use Rattle.lists.proofs.Tests.{both, and_true, every_at, every_all}
use Rattle.network.specs.Network.{Network, link_at, present, ok_links}
use Rattle.network.specs.Steps.{good_pair, good_row, half_links}

-- tests that imply each other are equal
same_test : (a b : Bool) → (a ≡ true → b ≡ true) → (b ≡ true → a ≡ true) → a ≡ b
same_test true b f g = sym (f refl)
same_test false true f g = g refl
same_test false false f g = refl

no_one_way : (x y : Bool) → x ≡ y → not (x && not y) ≡ true
no_one_way true true e = refl
no_one_way true false e = absurd (true≢false e)
no_one_way false y e = refl

-- no link one way only, from either side
one_way_none : (x y : Bool) → not (x && not y) ≡ true → not (y && not x) ≡ true → x ≡ y
one_way_none true true e d = refl
one_way_none true false e d = absurd (false≢true e)
one_way_none false true e d = absurd (false≢true d)
one_way_none false false e d = refl

same_beq : (x y : Bool) → x ≡ y → beq x y ≡ true
same_beq true y e = rw (sym e) refl
same_beq false y e = rw (sym e) refl

beq_same : (x y : Bool) → beq x y ≡ true → x ≡ y
beq_same true true e = refl
beq_same true false e = absurd (false≢true e)
beq_same false true e = absurd (false≢true e)
beq_same false false e = refl

module _ (net : Network) where
  pair_same : (U W : ℕ) → good_pair net.n net.links U W ≡ true → present net U W ≡ present net W U
  unfolding good_pair present
  pair_same U W e = beq_same (present net U W) (present net W U) e

  same_pair : (U W : ℕ) → present net U W ≡ present net W U → good_pair net.n net.links U W ≡ true
  unfolding good_pair present
  same_pair U W e = same_beq (present net U W) (present net W U) e

  -- what the test of all links says of each pair of nodes
  pub links_none : ok_links net ≡ true → (U : ℕ) → U < net.n → link_at net.n net.links U U ≡ 0
  unfolding ok_links
  links_none e U u =
      eqb-true (link_at net.n net.links U U) 0
      (both (eqb (link_at net.n net.links U U) 0) (every net.n (λ W. not (present net U W && not (present net W U)))) (every_at net.n _ e U u)).0

  one_way : ok_links net ≡ true → (U W : ℕ) → U < net.n → W < net.n → not (present net U W && not (present net W U)) ≡ true
  unfolding ok_links
  one_way e U W u w =
      every_at net.n (λ X. not (present net U X && not (present net X U)))
      (both (eqb (link_at net.n net.links U U) 0) (every net.n (λ X. not (present net U X && not (present net X U)))) (every_at net.n _ e U u)).1 W w

  pub links_same : ok_links net ≡ true → (U W : ℕ) → U < net.n → W < net.n → present net U W ≡ present net W U
  links_same e U W u w = one_way_none (present net U W) (present net W U) (one_way e U W u w) (one_way e W U w u)

  -- what the half of it says
  row_at : half_links net.n net.links ≡ true → (U : ℕ) → U < net.n → good_row net.n net.links U ≡ true
  unfolding half_links
  row_at e U u = every_at net.n (λ X. good_row net.n net.links X) e U u

  half_none : half_links net.n net.links ≡ true → (U : ℕ) → U < net.n → eqb (link_at net.n net.links U U) 0 ≡ true
  unfolding good_row
  half_none e U u = (both (eqb (link_at net.n net.links U U) 0) (every U (λ W. good_pair net.n net.links U W)) (row_at e U u)).0

  half_pair : half_links net.n net.links ≡ true → (U W : ℕ) → U < net.n → W < U → present net U W ≡ present net W U
  unfolding good_row
  half_pair e U W u w =
      pair_same U W
      (every_at U (λ X. good_pair net.n net.links U X) (both (eqb (link_at net.n net.links U U) 0) (every U (λ X. good_pair net.n net.links U X))
      (row_at e U u)).1 W w)

  half_same : half_links net.n net.links ≡ true → (U W : ℕ) → U < net.n → W < net.n → present net U W ≡ present net W U
  half_same e U W u w = by_cases (dec_lt W U)
      (λ b. half_pair e U W u b)
      (λ b. by_cases (dec_lt U W) (λ d. sym (half_pair e W U w d)) (λ d. let q : U ≡ W = omega arith in ap₂ (present net) q (sym q)))

  pub half_is_all : ok_links net ≡ half_links net.n net.links
  unfolding half_links good_row ok_links
  half_is_all = same_test (ok_links net) (half_links net.n net.links)
      (λ e. every_all net.n _ (λ U u. and_true _ _ (eq-eqb _ 0 (links_none e U u))
      (every_all U _ (λ W w. same_pair U W (links_same e U W u (omega arith))))))
      (λ e. every_all net.n _ (λ U u. and_true _ _ (half_none e U u)
      (every_all net.n _ (λ W w. no_one_way (present net U W) (present net W U) (half_same e U W u w)))))
