-- What a run writes and answers for the text that it reads.
use Rattle.std.specs.Prelude.{◌≡◌, ℕ, ◌<◌, ◌⊎◌, Option, Some, List}
use Rattle.std.specs.Io.KnownBytes.{Appends}
use Rattle.events.specs.History.{History}
use Rattle.specification.specs.Verdict.{Verdict, IsVerdict, faulty, accepted, refused}
use Rattle.specification.specs.ReportText.{report_text}
use Rattle.specification.specs.TraceText.{Spells, IsFirstLineFault, Cause}
use Rattle.trace_text.specs.Causes.{cause_of}
use Rattle.trace_text.specs.declared.cause.LineFault.{LineFault}
use Rattle.byte_streams.specs.Streams.{AppendsFront}
use Rattle.report.specs.JsonReport.{report_json}
use Rattle.command_line.specs.declared.task.Form.{Form}
use Rattle.command_line.specs.declared.task.Form.TheVariants.{Text, Json}
use Rattle.engines.specs.declared.status.Status.{Status}
use Rattle.engines.specs.declared.status.Status.TheVariants.{Good, Bad}
use Rattle.engines.specs.declared.status.RunFault.{RunFault}
use Rattle.engines.specs.declared.status.RunFault.TheVariants as run

-- the report in a form
abbrev pub report_of : Form → History → Verdict → List ℕ
report_of Text h v = report_text h v
report_of Json h v = report_json h v

-- good exactly where the verdict accepts
abbrev pub status_of : Verdict → Status
status_of (faulty fault) = Bad
status_of (accepted order) = Good
status_of (refused k steps) = Bad

-- the exit status for a status
abbrev pub number_of_status : Status → ℕ
number_of_status Good = 0
number_of_status Bad = 1

-- this is the report of the recording, and the status that of its verdict
abbrev pub IsReportOn : History → Form → List ℕ → Status → Type 0
IsReportOn h form report status =
    (v : Verdict) × IsVerdict h v × (report ≡ report_of form h v) × (status ≡ status_of v)

-- this is the report of the recording that the text spells, and the status that of its verdict
abbrev pub IsReportOf : List ℕ → Form → List ℕ → Status → Type 0
IsReportOf text form report status =
    (h : History) × (v : Verdict) × Spells text h × IsVerdict h v × (report ≡ report_of form h v)
    × (status ≡ status_of v)

-- exactly that report was appended
abbrev pub Reports : List ℕ → Form → Option (List ℕ) → Option (List ℕ) → Status → Type 0
Reports text form old new status =
    (report : List ℕ) × IsReportOf text form report status × Appends old new report

-- a prefix of it was appended
abbrev pub ReportsFront : List ℕ → Form → Option (List ℕ) → Option (List ℕ) → Type 0
ReportsFront text form old new =
    (report : List ℕ) × (status : Status) × IsReportOf text form report status × AppendsFront old new report

-- the first faulty line of the text, and not out of memory
abbrev pub IsLineFaultOf : List ℕ → LineFault → Type 0
IsLineFaultOf text fault =
    (cause : Cause) × (cause_of fault.cause ≡ Some cause) × IsFirstLineFault text fault.line cause

-- where the fault is of the text, it is the first of the text
abbrev pub NamesFirstFault : List ℕ → RunFault → Type 0
NamesFirstFault text (run.Trace fault) = IsLineFaultOf text fault
NamesFirstFault text _ = Unit {0}

-- no fault but the text's own and out of memory
abbrev pub IsOfText : RunFault → Type 0
IsOfText (run.Trace fault) = Unit {0}
IsOfText run.Memory = Unit {0}
IsOfText _ = ⊥

-- no fault but that of reading, the text's own, and out of memory
abbrev pub IsOfTrace : RunFault → Type 0
IsOfTrace run.Read = Unit {0}
IsOfTrace fault = IsOfText fault

-- no fault but that of reading and out of memory
abbrev pub IsOfReading : RunFault → Type 0
IsOfReading run.Read = Unit {0}
IsOfReading run.Memory = Unit {0}
IsOfReading _ = ⊥

-- no fault but those of a run without a session
abbrev pub IsOfRun : RunFault → Type 0
IsOfRun run.Thread = ⊥
IsOfRun run.Stalled = ⊥
IsOfRun _ = Unit {0}

-- no fault but those of reading and writing, and out of memory
abbrev pub IsOfVerifying : RunFault → Type 0
IsOfVerifying run.Write = Unit {0}
IsOfVerifying fault = IsOfReading fault

-- outside 1 to 64
abbrev pub IsNoWorkers : ℕ → Type 0
IsNoWorkers workers = (workers < 1) ⊎ (64 < workers)
