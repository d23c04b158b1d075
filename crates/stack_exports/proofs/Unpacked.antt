-- Nothing is lost in packing: within the ranges an answer is read back as it was, so different answers have different numbers.
use native.Mathlib.Omega.{arith}
use mathlib.Core.Path.{◌≡◌, refl, ap, ◌∙◌}
use mathlib.Core.Bool.{cond}
use borrow.Author.Tests.{ne_eqb}
use Prim.Native.Nat.{ℕ}
use Rattle.std.specs.Prelude.{Result, Ok, Err, Option, Some, None}
use Rattle.refusal.specs.declared.Refusal.{Refusal}
use Rattle.packing.proofs.Unpacked.{refused_back, value_read, apart}
use Rattle.stack_exports.specs.Packing.{pack_answer, pack_after, unpack_answer, unpack_after}
use Rattle.stack_exports.specs.Ranges.{AnswerFits, AfterFits}

pub answer_back : (a : Result ℕ Refusal) → AnswerFits a → unpack_answer (pack_answer a) ≡ a
unfolding unpack_answer
answer_back (Ok x) f = value_read x (omega arith) _ _
answer_back (Err r) f = refused_back r _

pub after_back : (a : Result (Option ℕ) Refusal) → AfterFits a → unpack_after (pack_after a) ≡ a
unfolding unpack_after
after_back (Ok (Some n)) f = value_read n (omega (arith, f.1)) _ _ ∙ ap (λ b. cond b (Ok None) (Ok (Some n)))
    (ne_eqb n 0 (λ e. omega (arith, e, f.0)))
after_back (Ok None) f = refl
after_back (Err r) f = refused_back r _

pub answer_apart : (a b : Result ℕ Refusal) → AnswerFits a → AnswerFits b → pack_answer a ≡ pack_answer b → a ≡ b
answer_apart a b f g e = apart pack_answer unpack_answer a b (answer_back a f) (answer_back b g) e

pub after_apart : (a b : Result (Option ℕ) Refusal) → AfterFits a → AfterFits b → pack_after a ≡ pack_after b → a ≡ b
after_apart a b f g e = apart pack_after unpack_after a b (after_back a f) (after_back b g) e
