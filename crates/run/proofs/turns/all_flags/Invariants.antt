use Prim.Native.Nat.{ℕ}
use mathlib.Core.Path.{◌≡◌}
use mathlib.Core.Bool.{true}
use Rattle.bits.specs.Bits.{word_of}
use Rattle.run.proofs.turns.all_flags.Given as goal

abbrev pub invariant-loop-d : goal.invariant-loop-d
invariant-loop-d l = l.word ≡ word_of l.d (λ (x : ℕ). true)
