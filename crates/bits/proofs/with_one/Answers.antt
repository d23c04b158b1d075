-- `bits::with_one` meets its contract: below 32 the shift is exact, and above the word stays.
use mathlib.Core.Path.{sym, ap, ◌∙◌}
use Prim.Native.Nat.{ℕ}
use lib.Bits.{bit_or}
use Rattle.bits.specs.Bits.{with_all}
use Rattle.bits.proofs.Bits.{shl_one}
use Rattle.bits.proofs.Masks.{with_one_below, with_one_above}
use Rattle.bits.proofs.with_one.Goals as goal

pub returns-then-v-lt32 : goal.returns-then-v-lt32
unfolding with_all
returns-then-v-lt32 c =
    let word = c.args.word in
    let v = c.args.v in
    ap (λ (x : ℕ). bit_or word x) (shl_one v c.if-v-lt32.true) ∙ sym (with_one_below word v c.if-v-lt32.true)

pub returns-else-v-lt32 : goal.returns-else-v-lt32
returns-else-v-lt32 c = sym (with_one_above c.args.word c.args.v c.if-v-lt32.false)
