use Rattle.std.proofs.Common.{arith}
use Rattle.std.proofs.lemmas.List.Sums.{length-filter, count_by-le-length}
use Rattle.events.specs.History.{stream, is_operation}
use Rattle.events.proofs.Lanes.{places-length}
use Rattle.events.proofs.recording.Recording.count.Goals as goal

pub overflow_cast-result : goal.overflow_cast-result
overflow_cast-result c =
    let bodies = stream c.args.self.now c.args.r in
    let places = places-length _ _ _ c.in-Some.ensures.lane.operations in
    omega (
      arith,
      places,
      length-filter is_operation bodies,
      count_by-le-length is_operation bodies,
      c.in-Some.ensures.limits.entries,
      c.len.ensures,
      c.in-Some.lane.now.operations.ok,
    )
