-- A single worker's seat is the first, and no other is out.
use Rattle.std.proofs.Common.{length}
use Rattle.order_graph.specs.Lists.{lists_of}
use Rattle.level_search.specs.Team.{AreLooksOfClaims}
use Rattle.level_search.proofs.Counts.{counts-lower}
use Rattle.level_search.proofs.workers.least_length_in_turn.Goals as goal

pub work-requires-clause-ready : goal.work-requires-clause-ready
work-requires-clause-ready c ks = c.in_ok-worker.ensures.ready c.args.sources.now

pub returns-clause-looked : goal.returns-clause-looked
returns-clause-looked c =
    let last = c.into_seat-first.ensures in
    let looks :
    AreLooksOfClaims (length c.args.graph.now.elements) (lists_of c.args.graph.now) c.args.sources.now
    c.into_seat-first.result.0 c.into_seat-first.result.1 =
    rw (last.seat, last.looked) c.work.ensures.ready.looked in
    record {
      sources = c.args.sources.now;
      known = c.requires.known;
      few = c.requires.count;
      met = c.requires.met;
      places = c.into_seat-first.result.0.claimed;
      once = c.closed.ensures.claimed;
      count = looks.0;
      found = c.into_seat-first.result.0.offered;
      least_is = c.closed.ensures.offer;
      counts = counts-lower _ _ _ _ _ _ _ looks.0 c.closed.ensures.low looks.1;
      looked_is = looks.2;
    }
