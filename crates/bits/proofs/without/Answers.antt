-- `bits::without` meets its contract: `word & (1 << v)` is the bit times 2 ^ v.
use mathlib.Core.Path.{ap, sym, ◌∙◌}
use Prim.Native.Nat.{ℕ, ◌-◌}
use lib.Bits.{bit_and, and_le_l}
use Rattle.bits.specs.Bits.{without}
use Rattle.bits.proofs.Bits.{shl_one, and_bit}
use Rattle.bits.proofs.Laws.{without_above}
use Rattle.bits.proofs.without.Goals as goal

pub overflow_sub-result : goal.overflow_sub-result
overflow_sub-result c = and_le_l _ _

pub returns-then-v-lt32 : goal.returns-then-v-lt32
unfolding without
returns-then-v-lt32 c =
    let word = c.args.word in
    let v = c.args.v in
    ap (λ (x : ℕ). word - x) (ap (λ (x : ℕ). bit_and word x) (shl_one v c.if-v-lt32.true) ∙ and_bit word v)

pub returns-else-v-lt32 : goal.returns-else-v-lt32
returns-else-v-lt32 c = sym (without_above c.args.word c.args.v c.ranges.word.fits c.if-v-lt32.false)
