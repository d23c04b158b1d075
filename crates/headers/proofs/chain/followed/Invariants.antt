use Rattle.headers.proofs.Following.{Following}
use Rattle.headers.proofs.chain.followed.Given as goal

abbrev pub invariant-loop-k : goal.invariant-loop-k
invariant-loop-k l =
    Following l.packet l.h l.announced l.k l.s l.e l.number l.weight
