-- `run::turns::all_flags` meets its contract: after d turns the word has the bits below d.
use Prim.Native.Nat.{ℕ}
use mathlib.Core.Path.{refl, sym, ap, ◌∙◌}
use mathlib.Core.Bool.{true}
use native.Mathlib.Numerals.{add-one}
use native.Mathlib.Omega.{arith}
use Rattle.bits.specs.Bits.{word_of, with_one}
use Rattle.bits.proofs.Masks.{word_of_set}
use Rattle.run.proofs.turns.all_flags.Goals as goal

pub loop-d-init : goal.loop-d-init
unfolding word_of
loop-d-init c = refl

pub loop-d-preserved : goal.loop-d-preserved
loop-d-preserved c =
    let l = c.loop-d in
    c.with_one-word.ensures
    ∙ ap (λ (w : ℕ). with_one w l.d) l.invariant
    ∙ sym (word_of_set l.d (λ (x : ℕ). true) (omega arith) refl)
    ∙ ap (λ (k : ℕ). word_of k (λ (x : ℕ). true)) (sym (add-one l.d))
