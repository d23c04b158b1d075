-- `forward::row::is_home` meets its contract.
use mathlib.Core.Path.{sym, ◌∙◌}
use borrow.Author.Tests.{eq-eqb, ne_eqb, eqb-true, le-leb}
use Rattle.gateways.specs.Gateways.{accepts}
use Rattle.table.specs.Table.{home}
use Rattle.forward.proofs.row.is_home.Goals as goal
use Rattle.forward.proofs.row.is_home.Goals.{then-node-destination, else-node-destination}

pub returns-then-number-net : goal.returns-then-number-net
unfolding home accepts
returns-then-number-net c =
    elim c.if-node-destination.branch [
      | then-node-destination w ↦
          simp (eq-eqb _ _ w.if-node-destination.true, le-leb 1 _ c.requires, sym w.value-is ∙ c.if-number-net.true) c.accepts.ensures
      | else-node-destination w ↦ absurd (w.if-node-destination.false (eqb-true _ _ (sym w.value-is ∙ c.if-number-net.true)))
    ]

pub returns-else-number-net : goal.returns-else-number-net
unfolding home accepts
returns-else-number-net c =
    elim c.if-node-destination.branch [
      | then-node-destination w ↦
          simp (eq-eqb _ _ w.if-node-destination.true, le-leb 1 _ c.requires, sym w.value-is ∙ c.if-number-net.false) c.if-number-net.false
      | else-node-destination w ↦ simp (ne_eqb _ _ w.if-node-destination.false) c.if-number-net.false
    ]
