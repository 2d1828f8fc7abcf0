-- How a session that replays a recording ends, and what its watcher judges.
use Rattle.std.specs.Prelude.{ℕ, List}
use Rattle.events.specs.History.{History, SameStreams}
use Rattle.specification.specs.TraceText.{Spells}
use Rattle.verdict.specs.declared.verdict.Verdict.{Verdict}
use Rattle.rehearsal.specs.Ends.{HasEnded}
use Rattle.rehearsal.specs.Replays.{HasStalled}
use Rattle.rehearsal.specs.Watched.{WasWatched}
use Rattle.rehearsal.specs.declared.fault.RehearsalFault.TheVariants as rehearsal
use Rattle.engines.specs.declared.status.RunFault.{RunFault}
use Rattle.engines.specs.declared.status.RunFault.TheVariants as run

-- the text spells a recording that has stalled, and that is the foremost fault in some account of what all
-- threads told
abbrev pub HasStalledOn : List ℕ → Type 0
HasStalledOn text = (h : History) × Spells text h × HasStalled h × HasEnded h rehearsal.Stalled

-- a watcher came to these verdicts in a session that has the streams of the recording in the end
abbrev pub IsWatched : History → List Verdict → Type 0
IsWatched h verdicts = (closed : History) × SameStreams h closed × WasWatched closed verdicts

-- the same, of the recording that the text spells
abbrev pub IsWatchedOn : List ℕ → List Verdict → Type 0
IsWatchedOn text verdicts = (h : History) × Spells text h × IsWatched h verdicts

-- no fault but those of threads, and out of memory
abbrev pub IsOfSession : RunFault → Type 0
IsOfSession run.Thread = Unit {0}
IsOfSession run.Stalled = Unit {0}
IsOfSession run.Memory = Unit {0}
IsOfSession _ = ⊥
