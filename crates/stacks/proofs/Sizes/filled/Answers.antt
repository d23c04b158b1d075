-- `stacks::Sizes::filled` meets its contract: acc, what is written so far, stands from i to high, and the stack of n under acc is the whole stack.
use Prim.Native.Nat.{ℕ, ◌-◌, ◌%◌}
use mathlib.Core.Path.{sym, ap, ◌∙◌}
use mathlib.Core.List.{List, [], ◌∷◌, ◌++◌}
use lib.ListN.{drop, set, take-append-drop}
use native.Mathlib.Omega.{arith}
use Rattle.stacks.specs.Stacks.{height, stack_under}
use Rattle.stacks.proofs.Heights.{height_height, stack_under_height, height_pos, height_down, stack_under_down, set_down}
use Rattle.stacks.proofs.Sizes.filled.Goals as goal

pub loop-i-init : goal.loop-i-init
loop-i-init c =
    let a = c.args in
    let e = c.requires.whole in (
      ap (λ (k : ℕ). height a.self.p k a.number) e ∙ height_height a.self.p a.self.h a.number ∙ sym e,
      (
        [],
        ap (λ (k : ℕ). stack_under a.self.p k a.number []) e ∙ stack_under_height a.self.p a.self.h a.number [],
        sym (take-append-drop a.high a.out.now),
      ),
    )

pub loop-i-preserved : goal.loop-i-preserved
loop-i-preserved c =
    let a = c.args in
    let l = c.loop-i in
    let w = l.invariant.1 in
    let v = (l.n - 1) % a.self.p in
    let some = height_pos a.self.p l.i l.n l.invariant.0 c.loop-i-test.true in (
      height_down a.self.p l.i l.n l.invariant.0 c.loop-i-test.true,
      (
        v ∷ w.0,
        sym (stack_under_down a.self.p l.i l.n w.0 c.loop-i-test.true some) ∙ w.1,
        ap (λ (o : List ℕ). set o (l.i - 1) v) w.2
            ∙ set_down a.out.now (w.0 ++ drop a.high a.out.now) l.i v c.loop-i-test.true (omega (arith, c.requires.room)),
      ),
    )
