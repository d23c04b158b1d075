-- `bits::ones` meets its contract: the sum of the bits is the machine's count.
use mathlib.Core.Path.{sym}
use Rattle.bits.proofs.Counts.{ones_is_library}
use Rattle.bits.proofs.ones.Goals as goal

pub returns : goal.returns
returns c = sym (ones_is_library c.args.word c.ranges.word.fits)
