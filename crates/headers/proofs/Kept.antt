-- THE PROMISES ARE KEPT: all of specs/Promise.antt.
use lib.ListN.{length}
use Rattle.headers.specs.Promise.{Promised}
use Rattle.headers.proofs.Reading.{finds, one_chain}
use Rattle.headers.proofs.Bounds.{height, a_stack, part}
use Rattle.headers.proofs.Trailing.{trailing}
use Rattle.headers.proofs.Examples.{example}

pub kept : Promised
kept = record {
  finds = finds;
  one_reading = λ h h' packet stack stack' from from' to to' r r'. one_chain packet stack stack' 0 0 (length packet) from from' to to' r.chain r'.chain;
  one_chain = one_chain;
  height = height;
  a_stack = a_stack;
  part = part;
  trailing = trailing;
  example = example;
}
