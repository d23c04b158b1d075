-- `bits::with_all` meets its contract, which is what `|` computes to.
use mathlib.Core.Path.{refl}
use Rattle.bits.specs.Bits.{with_all}
use Rattle.bits.proofs.with_all.Goals as goal

pub returns : goal.returns
unfolding with_all
returns c = refl
