use mathlib.Core.Path.{◌≡◌}
use lib.Dec.{ltb}
use Rattle.bits.specs.Bits.{word_of}
use Rattle.network.specs.Network.{link_at}
use Rattle.network.proofs.Network.neighbours.Given as goal

abbrev pub invariant-loop-w : goal.invariant-loop-w
invariant-loop-w l = l.word ≡ word_of l.w (λ W. ltb 0 (link_at l.self.n l.self.links.now l.node W))
