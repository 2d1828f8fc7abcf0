-- All replicas together have few entries.
use Rattle.std.proofs.Common.{◌≤◌, ◌*◌, length, arith}
use Rattle.events.specs.declared.TheConstants.{MOST_REPLICAS, MOST_ENTRIES}
use Rattle.events.proofs.Streams.{entries_few}
use Rattle.trace_text.proofs.versioned.Versioned.next_line.Goals as goal

pub overflow_add-result : goal.overflow_add-result
overflow_add-result c =
    let few : length c.self.inside.recording.entries ≤ MOST_REPLICAS * MOST_ENTRIES =
    entries_few _ c.len.ensures.legal in
    omega arith
