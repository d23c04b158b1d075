-- `forward::row::good_place` meets its contract: its tests are those of `ok_place`.
use mathlib.Core.Bool.{and_assoc}
use Rattle.forward.specs.Answers.{ok_place}
use Rattle.forward.proofs.row.good_place.Goals as goal

pub returns : goal.returns
unfolding ok_place
returns c = simp and_assoc
