-- Every call on stacks: what the C caller reads back is the call's whole answer.
use Prim.Native.Nat.{ℕ}
use mathlib.Core.Path.{◌≡◌}
use mathlib.Core.List.{List}
use Rattle.stacks.specs.Answers.{count_of, number_of, height_of}
use Rattle.functions.specs.Answers.{applied_of, inverse_of}
use Rattle.stack_exports.specs.Packing.{pack_answer, pack_after, unpack_answer, unpack_after}
use Rattle.stack_exports.proofs.StackAnswers.{stack_count_fits, number_of_fits, stack_of_fits, applied_fits, inverse_of_fits}
use Rattle.stack_exports.proofs.Unpacked.{answer_back, after_back}

module _ (p h : ℕ) where
  pub stack_count_kept : unpack_answer (pack_answer (count_of p h)) ≡ count_of p h
  stack_count_kept = answer_back (count_of p h) (stack_count_fits p h)

  pub number_of_kept : (s : List ℕ) → unpack_answer (pack_answer (number_of p h s)) ≡ number_of p h s
  number_of_kept s = answer_back (number_of p h s) (number_of_fits p h s)

  pub stack_of_kept : (n : ℕ) (out : List ℕ) → unpack_answer (pack_answer (height_of p h n out)) ≡ height_of p h n out
  stack_of_kept n out = answer_back (height_of p h n out) (stack_of_fits p h n out)

  pub applied_kept : (f n : ℕ) → unpack_after (pack_after (applied_of p h f n)) ≡ applied_of p h f n
  applied_kept f n = after_back (applied_of p h f n) (applied_fits p h f n)

  pub inverse_of_kept : (f : ℕ) → unpack_answer (pack_answer (inverse_of p f)) ≡ inverse_of p f
  inverse_of_kept f = answer_back (inverse_of p f) (inverse_of_fits p f)
