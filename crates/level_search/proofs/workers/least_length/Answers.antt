-- What the workers' slice is lent and written back is the team that worked, of which the last has the first
-- seat.
use Rattle.std.proofs.Common.{arith}
use Rattle.level_search.proofs.Counts.{counts-lower}
use Rattle.level_search.proofs.Teams.{taken_of_team}
use Rattle.level_search.proofs.workers.least_length.Goals as goal

pub gathered-first-requires : goal.gathered-first-requires
gathered-first-requires g c =
    let parts =
    taken_of_team _ _ _ _ c.in_ok-team.team.len c.in_ok-team.team.items _ _ _ _ c.in_ok-team.ensures
    (omega (arith, c.in_ok-team.team.ok.0)) c.as_mut_slice.ensures.value c.work_all.ensures
    c.in-Some.ensures.items in
    let last = c.into_seat-first.ensures in
    record {
      first = rw last.seat
          (parts.0.0, parts.0.1, (let out = parts.0.2 in omega (arith, out, c.pop.new.self.ok.0)), parts.0.3);
      honest = rw last.seat parts.0.4;
      looked = rw (last.seat, last.looked) parts.0.5;
      others = parts.1;
    }

pub returns-clause-looked : goal.returns-clause-looked
returns-clause-looked g c =
    let looks = c.gathered-first.ensures.looked in
    record {
      sources = c.args.sources.now;
      known = c.requires.known;
      few = c.requires.count;
      met = c.requires.met;
      places = c.gathered-first.result.0.claimed;
      once = c.closed.ensures.claimed;
      count = looks.0;
      found = c.gathered-first.result.0.offered;
      least_is = c.closed.ensures.offer;
      counts = counts-lower _ _ _ _ _ _ _ looks.0 c.closed.ensures.low looks.1;
      looked_is = looks.2;
    }
