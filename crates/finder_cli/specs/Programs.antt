-- What the program does for the words of its command line, in every world.
use Rattle.std.specs.Prelude.{◌≡◌, ◌⊎◌, ◌∷◌, [], ℕ, true, string_bytes, List, MatchResult, Option, Result, Ok}
use Rattle.std.specs.Prelude.{Err}
use Rattle.std.specs.Io.KnownBytes.{Appends}
use Rattle.byte_streams.specs.Streams.{SourceState, SinkState, AppendsFront}
use Rattle.command_line.specs.declared.task.Task.{Task}
use Rattle.command_line.specs.declared.task.Task.TheVariants.{Verdict, Cert, Verify, Live}
use Rattle.command_line.specs.declared.words.WordsFault.{WordsFault}
use Rattle.command_line.specs.declared.words.WordsFault.TheVariants as words
use Rattle.finder_cli.specs.Deeds.{Deed, IsFresh, closed, complained, missed, opened}
use Rattle.finder_cli.specs.Endings.{fault_of_run, number_of_fault}
use Rattle.engines.specs.Runs.{number_of_status}
use Rattle.finder_cli.specs.Engines.{JudgesAlone, JudgesLive, Shows, Checks}
use Rattle.engines.specs.declared.status.Status.{Status}
use Rattle.engines.specs.declared.status.Status.TheVariants.{Good}
use Rattle.engines.specs.declared.status.RunFault.{RunFault}
use Rattle.finder_cli.specs.declared.fault.ProgramFault.{ProgramFault}
use Rattle.finder_cli.specs.declared.fault.ProgramFault.TheVariants as program

-- the program's answer for an engine's, on this file
abbrev pub answer_on : List ℕ → Result Status RunFault → Result Status ProgramFault
answer_on file (Ok status) = Ok status
answer_on file (Err fault) = Err (fault_of_run file fault)

-- the file can't be opened; or the engine went on its stream, which was closed then, and its answer is the
-- program's
abbrev pub RunsOn : (SourceState → SourceState → SinkState → SinkState → Result Status RunFault → Type 0)
    → (List ℕ → Option (List ℕ)) → List ℕ
    → List Deed → SinkState → SinkState → Result Status ProgramFault → Type 0
RunsOn Engine text file deeds old new answer =
    ((deeds ≡ missed file ∷ []) × (new ≡ old) × (answer ≡ Err (program.Read file)))
    ⊎ ((before : SourceState) × (after : SourceState) × (ran : Result Status RunFault) × IsFresh before
    × (before.bytes ≡ text file)
    × Engine before after old new ran × (deeds ≡ opened file before ∷ closed after ∷ [])
    × (answer ≡ answer_on file ran))

-- the trace can't be opened; or the certificate can't; or the checker went on both streams
abbrev pub ChecksOn : (List ℕ → Option (List ℕ)) → List ℕ → List ℕ → List Deed → SinkState → SinkState
    → Result Status ProgramFault → Type 0
ChecksOn text file cert deeds old new answer =
    ((deeds ≡ missed file ∷ []) × (new ≡ old) × (answer ≡ Err (program.Read file)))
    ⊎ (((before : SourceState) × IsFresh before × (before.bytes ≡ text file)
    × (deeds ≡ opened file before ∷ missed cert ∷ closed before ∷ []) × (new ≡ old)
    × (answer ≡ Err (program.Read cert)))
    ⊎ ((trace : SourceState) × (trace_after : SourceState) × (other : SourceState)
    × (other_after : SourceState) × (ran : Result Status RunFault)
    × IsFresh trace × (trace.bytes ≡ text file) × IsFresh other × (other.bytes ≡ text cert)
    × Checks trace trace_after other other_after old new ran
    × (deeds ≡ opened file trace ∷ opened cert other ∷ closed trace_after ∷ closed other_after ∷ [])
    × (answer ≡ answer_on file ran)))

-- what is done for a task: which files are opened, in which order, and which engine goes on them
abbrev pub DoesTask : (List ℕ → Option (List ℕ)) → Task → List Deed → SinkState → SinkState
    → Result Status ProgramFault → Type 0
DoesTask text (Verdict count form file) deeds old new answer = RunsOn
    (JudgesAlone count form) text file deeds old new answer
DoesTask text (Cert file) deeds old new answer = RunsOn Shows text file deeds old new answer
DoesTask text (Verify file cert) deeds old new answer = ChecksOn text file cert deeds old new answer
DoesTask text (Live count file) deeds old new answer = RunsOn
    (JudgesLive count) text file deeds old new answer

-- the text of a help was written, or a prefix of it
abbrev pub Helps : List ℕ → SinkState → SinkState → Result Status ProgramFault → Type 0
Helps help old new answer =
    MatchResult answer (λ status. (status ≡ Good) × Appends old.bytes new.bytes help)
    (λ fault. (fault ≡ program.Write) × (new.failed ≡ true) × AppendsFront old.bytes new.bytes help)

-- what is done for what the words ask for
abbrev pub Does : (List ℕ → Option (List ℕ)) → Result Task WordsFault → List Deed → SinkState → SinkState
    → Result Status ProgramFault → Type 0
Does text (Ok task) deeds old new answer = DoesTask text task deeds old new answer
Does text (Err words.Usage) deeds old new answer = (deeds ≡ []) × (new ≡ old) × (answer ≡ Err program.Usage)
Does text (Err words.Memory) deeds old new answer = (deeds ≡ []) × (new ≡ old) × (answer ≡ Err program.Memory)
Does text (Err (words.Help help)) deeds old new answer = (deeds ≡ [])
    × Helps (string_bytes help) old new answer

-- a fault is complained of
abbrev pub complaints : Result Status ProgramFault → List Deed
complaints (Ok status) = []
complaints (Err fault) = complained fault ∷ []

-- the exit status
abbrev pub number_of : Result Status ProgramFault → ℕ
number_of (Ok status) = number_of_status status
number_of (Err fault) = number_of_fault fault
