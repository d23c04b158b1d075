-- THE PROMISES ARE KEPT: all of specs/Promise.antt.
use Rattle.refusal.specs.declared.Refusal.{Refusal}
use Rattle.forward.specs.Answers.{lookup_of}
use Rattle.promise.specs.Promise.{Promise}
use Rattle.promise.proofs.Reaching.{begins, reached_refusal}
use Rattle.promise.proofs.Carrying.{carried_on}
use Rattle.promise.proofs.Least.{attained, least, no_route}
use Rattle.promise.proofs.NoWays.{no_way_lem, home_kept}
use Rattle.promise.proofs.Refusals.{ceiling_kept, delivers, never_7}
use Rattle.promise.proofs.Hopping.{carry_never_7, never_8}
use Rattle.promise.proofs.Running.{run_later, run_reached}
use Rattle.promise.proofs.Settling.{ends, settles}
use Rattle.promise.proofs.Rounds.{run_unrefused, run_stops, run_again, rounds_settle}
use Rattle.promise.proofs.Telling.{delivered_there, delivered_here, found, quiet_said}
use Rattle.promise.proofs.Readings.{refused_is, read_as}
use Rattle.promise.proofs.Arriving.{carries}

pub kept : Promise
kept net ok = record {
  begins = begins net;
  ready = λ t r. reached_refusal net ok r;
  carried_on = carried_on net ok;
  carries = λ t U D W f M c stack r e. carries net ok t U D W f M c stack r e;
  delivered_there = delivered_there net ok;
  delivered_here = delivered_here net ok;
  attained = attained net ok;
  least = least net ok;
  no_route = λ t U D stack r q k. read_as (lookup_of net t U D stack) Refusal.NoRoute (no_route net ok t U D stack r q k);
  found = found net ok;
  quiet_said = quiet_said net ok;
  no_way_lem = no_way_lem net ok;
  home_kept = home_kept net ok;
  ceiling_kept = ceiling_kept net ok;
  delivers = delivers net ok;
  never_7 = λ t U D stack r e. never_7 net ok t U D stack r (refused_is (lookup_of net t U D stack) Refusal.Broken e);
  carry_never_7 = λ t U D limit stack r. carry_never_7 net ok t U D stack r limit;
  never_8 = never_8 net ok;
  run_later = run_later net ok;
  run_reached = run_reached net ok;
  ends = ends net ok;
  run_unrefused = run_unrefused net ok;
  run_stops = run_stops net ok;
  run_again = run_again net ok;
  settles = settles net ok;
  rounds_settle = rounds_settle net ok;
}
