use Rattle.hear.specs.Answers.{rows_of}
use Rattle.hear.specs.Handed.{gateway_seen, message_seen}
use Rattle.hear.proofs.Loop.{Heeds}
use Rattle.hear.proofs.hear.Given as goal

abbrev pub invariant-loop-i : goal.invariant-loop-i
invariant-loop-i l =
    Heeds (gateway_seen l.gateway) (message_seen l.message)
    (rows_of l.initial.costs l.initial.ways l.initial.waiting) (rows_of l.costs l.ways l.waiting) l.i l.count
