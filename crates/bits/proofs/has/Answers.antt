-- `bits::has` meets its contract: the shift computes to the bit, and no bit stands at 32 or above.
use mathlib.Core.Path.{refl, sym}
use Rattle.bits.specs.Bits.{has}
use Rattle.bits.proofs.Laws.{high_bit}
use Rattle.bits.proofs.has.Goals as goal

pub returns-then-v-lt32 : goal.returns-then-v-lt32
unfolding has
returns-then-v-lt32 c = refl

pub returns-else-v-lt32 : goal.returns-else-v-lt32
returns-else-v-lt32 c = sym (high_bit c.args.word c.args.v c.ranges.word.fits c.if-v-lt32.false)
