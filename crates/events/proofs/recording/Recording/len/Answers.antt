-- All replicas together have few entries.
use Rattle.std.proofs.Common.{◌≤◌, ◌*◌, length, arith}
use Rattle.events.specs.declared.TheConstants.{MOST_REPLICAS, MOST_ENTRIES}
use Rattle.events.proofs.Streams.{entries_few}
use Rattle.events.proofs.recording.Recording.len.Goals as goal

pub overflow_cast-result : goal.overflow_cast-result
overflow_cast-result c =
    let few : length c.self.inside.kept.items ≤ MOST_REPLICAS * MOST_ENTRIES =
    entries_few _ c.self.invariant.legal in
    omega (arith, c.self.inside.kept.ok)
