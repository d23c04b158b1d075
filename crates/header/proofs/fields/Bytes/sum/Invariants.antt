use Prim.Native.Nat.{◌<◌}
use mathlib.Core.Path.{◌≡◌}
use Rattle.header.specs.Fields.{sum}
use Rattle.header.proofs.fields.Bytes.sum.Given as goal

abbrev pub invariant-loop-i : goal.invariant-loop-i
invariant-loop-i l = (l.total ≡ sum l.self.packet.now l.self.s l.i) × (l.total < 65536)
