-- `bits::lowest` meets its contract: the search by tests is the machine's count of trailing zeros.
use mathlib.Core.Path.{sym}
use native.Mathlib.Omega.{arith}
use lib.Count.{trailing_le}
use Rattle.bits.proofs.LowestBit.{lowest_is_library}
use Rattle.bits.proofs.lowest.Goals as goal

pub returns : goal.returns
returns c = sym (lowest_is_library c.args.word)

pub overflow_cast-result : goal.overflow_cast-result
overflow_cast-result c = omega (arith, trailing_le 32 c.args.word)
