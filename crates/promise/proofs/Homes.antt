-- A packet that is home: it is at its destination, and its stack is one protocol that the destination accepts.
use Prim.Native.Nat.{ℕ, ◌+◌, ◌-◌, ◌<◌}
use native.Mathlib.Omega.{arith}
use mathlib.Core.Path.{◌≡◌, refl, sym, ap, ◌∙◌}
use mathlib.Core.List.{[], ◌∷◌}
use mathlib.Core.Bool.{true, ◌&&◌}
use lib.Dec.{leb, eqb}
use borrow.Author.Tests.{leb-true, eqb-true, lt-ltb, le-leb, eq-eqb}
use Rattle.lists.proofs.Tests.{both}
use Rattle.stacks.specs.Stacks.{one_to, ok_stack, number, stack_of}
use Rattle.stacks.proofs.Laws.{stack_of_number}
use Rattle.stacks.proofs.Tests.{sizes, good_ok}
use Rattle.network.specs.Network.{Network}
use Rattle.network.proofs.Laws.{valid}
use Rattle.gateways.specs.Gateways.{accepts}
use Rattle.gateways.proofs.Laws.{accepts_below}
use Rattle.table.specs.Table.{home}
use Rattle.promise.specs.Routes.{Network16}

-- the stack of one protocol x has number x + 1
pub number_one : (p x : ℕ) → number p (x ∷ []) ≡ x + 1
number_one p x = omega arith

module _ (net : Network) (ok : Network16 net) where
  -- it is a stack
  pub one_ok : (x : ℕ) → x < net.p → ok_stack net.p net.h (x ∷ []) ≡ true
  one_ok x low = good_ok net.p net.h (x ∷ []) (record {
    small = simp (lt-ltb x net.p low);
    some = omega arith;
    low = omega (arith, (sizes net.p net.h (valid net ok.valid).size).high);
  })

  -- which is home at the destination that accepts it
  pub one_home : (D x : ℕ) → accepts net D x ≡ true → home net D D (number net.p (x ∷ [])) ≡ true
  unfolding home accepts
  one_home D x e =
      let low = (accepts_below net D x e).1 in
      let number_is = number_one net.p x in
      let below : number net.p (x ∷ []) - 1 ≡ x = omega arith in
      simp (eq-eqb D D refl, le-leb 1 (number net.p (x ∷ [])) (omega arith), le-leb (number net.p (x ∷ [])) net.p (omega arith), below) e

  -- and no other stack is
  pub record Home (U D N : ℕ) : Type 0 where
    pub there : U ≡ D
    pub one : stack_of net.p net.h N ≡ (N - 1) ∷ []
    pub accepted : accepts net D (N - 1) ≡ true

  pub at_home : (U D N : ℕ) → home net U D N ≡ true → Home U D N
  unfolding home accepts
  at_home U D N e =
      let a = both (eqb U D) (one_to net.p N && accepts net D (N - 1)) e in
      let b = both (one_to net.p N) (accepts net D (N - 1)) a.1 in
      let one_to_lem = both (leb 1 N) (leb N net.p) b.0 in
      let some = leb-true 1 N one_to_lem.0 in
      let low : N - 1 < net.p = omega (arith, leb-true N net.p one_to_lem.1) in
      let number_is : number net.p ((N - 1) ∷ []) ≡ N = omega (arith, number_one net.p (N - 1)) in
      record {
        there = eqb-true U D a.0;
        one = ap (stack_of net.p net.h) (sym number_is) ∙ stack_of_number net.p net.h (valid net ok.valid).size ((N - 1) ∷ []) (one_ok (N - 1) low);
        accepted = b.1;
      }
