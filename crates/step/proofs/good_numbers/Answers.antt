-- `step::good_numbers` meets its contract: its tests are those of `ok_message_in`.
use Rattle.step.proofs.Tests.{numbers_same}
use Rattle.step.proofs.good_numbers.Goals as goal

pub returns : goal.returns
returns c = let a = c.args in let m = a.message in numbers_same a.n a.stacks m.sender m.receiver m.destination m.number
