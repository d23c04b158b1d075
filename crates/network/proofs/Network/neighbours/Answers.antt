-- `network::neighbours` meets its contract. The invariant: the word so far is that of the links to the nodes before w.
use Prim.Native.Nat.{ℕ}
use native.Mathlib.Omega.{arith}
use mathlib.Core.Path.{◌≡◌, refl, sym, ap, ◌∙◌}
use lib.Dec.{ltb}
use Rattle.bits.specs.Bits.{word_of}
use Rattle.network.specs.Network.{link_at, neighbours_at}
use Rattle.network.proofs.Rows.{neighbours_many, link_more, link_none_more}
use Rattle.network.proofs.Network.neighbours.Goals as goal
use Rattle.network.proofs.Network.neighbours.Goals.{then-link-gt0, else-link-gt0}

pub returns-then-self-gt32 : goal.returns-then-self-gt32
returns-then-self-gt32 c =
    let a = c.args in
    sym (neighbours_many a.self.now.n a.self.now.links.now a.node c.if-self-gt32.true)

pub loop-w-init : goal.loop-w-init
unfolding word_of
loop-w-init c = refl

pub loop-w-preserved : goal.loop-w-preserved
loop-w-preserved c =
    let a = c.args in
    let l = c.loop-w in
    elim c.if-link-gt0.branch [
      | then-link-gt0 w ↦ w.word-is ∙ w.with_one-word.ensures
          ∙ link_more a.self.now.n a.self.now.links.now a.node l.w l.word _ l.invariant c.link.ensures (omega arith) w.if-link-gt0.true
      | else-link-gt0 w ↦ w.word-is ∙ link_none_more a.self.now.n a.self.now.links.now a.node l.w l.word _ l.invariant c.link.ensures w.if-link-gt0.false
    ]

pub returns : goal.returns
unfolding neighbours_at
returns c =
    let a = c.args in
    let l = c.loop-w in
    let e : l.w ≡ a.self.now.n = omega arith in
    l.invariant ∙ ap (λ (k : ℕ). word_of k (λ W. ltb 0 (link_at a.self.now.n a.self.now.links.now a.node W))) e
