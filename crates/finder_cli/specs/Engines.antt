-- The contracts of the engines, each as one fact of the streams before and after and of the answer.
use Rattle.std.specs.Prelude.{◌≡◌, ◌≢◌, ◌↔◌, ◌⊎◌, ℕ, true, false, IfOk, IfErr, IfSome, OnOk, IsErr, IsErrOf, Result, Err}
use Rattle.std.specs.Io.KnownBytes.{IsAtEnd}
use Rattle.byte_streams.specs.Streams.{SourceState, SinkState, IsClosed}
use Rattle.command_line.specs.declared.task.Form.{Form}
use Rattle.command_line.specs.declared.task.Form.TheVariants.{Text}
use Rattle.finder_cli.specs.declared.engine.Engine.{Engine}
use Rattle.finder_cli.specs.declared.engine.Engine.TheVariants as engine
use Rattle.engines.specs.Runs.{Reports, ReportsFront, NamesFirstFault, IsNoWorkers, IsOfRun, IsOfVerifying}
use Rattle.live_engine.specs.Sessions.{HasStalledOn}
use Rattle.engines.specs.Certified.{Certifies, CertifiesFront, Verifies, VerifiesFront}
use Rattle.engines.specs.OutOfMemory.{RunsOut, RunsOutVerifying, WasReadWhole}
use Rattle.engines.specs.Failures.{FailsToRead, FailsToWrite}
use Rattle.engines.specs.declared.status.Status.{Status}
use Rattle.engines.specs.declared.status.RunFault.{RunFault}
use Rattle.engines.specs.declared.status.RunFault.TheVariants as run

-- the report of the verdict on the recording that the source spells
pub record Judges (count : ℕ) (form : Form) (before after : SourceState) (old new : SinkState)
    (answer : Result Status RunFault) : Type 0 where
  pub report : IfOk answer (λ status. IfSome before.bytes
      (λ text. Reports text form old.bytes new.bytes status))
  pub end : OnOk answer (IsAtEnd after.bytes × (after.ended ≡ true))
  pub workers : IsErrOf answer run.Workers ↔ IsNoWorkers count
  pub unread : IsNoWorkers count → after ≡ before
  pub read : IfErr answer (λ fault. fault ≡ run.Read → IsClosed after)
  pub failed_read : IfErr answer (λ fault. fault ≡ run.Read → FailsToRead before after)
  pub closed_source : IsClosed before → (after ≡ before) × (¬ IsNoWorkers count → answer ≡ Err run.Read)
  pub memory : IfErr answer (λ fault. fault ≡ run.Memory → after.failed ≡ false)
  pub place : IfErr answer (λ fault. fault ≡ run.Memory → RunsOut before after)
  pub trace : IfErr answer (λ fault. IfSome before.bytes (λ text. NamesFirstFault text fault))
  pub write : IfErr answer (λ fault. fault ≡ run.Write → (new.failed ≡ true)
      × IfSome before.bytes (λ text. ReportsFront text form old.bytes new.bytes))
  pub failed_write : IfErr answer (λ fault. fault ≡ run.Write → FailsToWrite old new
      × WasReadWhole before after)
  pub closed_sink : old.failed ≡ true → new ≡ old
  pub unwritten : IfErr answer (λ fault. fault ≢ run.Write → new ≡ old)

-- the same without a session: no thread is missed, and no recorder gives up
abbrev pub JudgesAlone : ℕ → Form → SourceState → SourceState → SinkState → SinkState → Result Status RunFault
    → Type 0
JudgesAlone count form before after old new answer = Judges count form before after old new answer
    × IfErr answer IsOfRun

-- the same by way of a session: that a recorder gave up is answered only where the recording can stall
abbrev pub JudgesLive : ℕ → SourceState → SourceState → SinkState → SinkState → Result Status RunFault
    → Type 0
JudgesLive count before after old new answer = Judges count Text before after old new answer
    × IfErr answer (λ fault. fault ≡ run.Stalled → IfSome before.bytes HasStalledOn)

-- the certificate of the verdict on the recording that the source spells
pub record Shows (before after : SourceState) (old new : SinkState)
    (answer : Result Status RunFault) : Type 0 where
  pub certificate : IfOk answer (λ status. IfSome before.bytes
      (λ text. Certifies text old.bytes new.bytes status))
  pub end : OnOk answer (IsAtEnd after.bytes × (after.ended ≡ true))
  pub workers : ¬ IsErrOf answer run.Workers
  pub faults : IfErr answer IsOfRun
  pub read : IfErr answer (λ fault. fault ≡ run.Read → IsClosed after)
  pub failed_read : IfErr answer (λ fault. fault ≡ run.Read → FailsToRead before after)
  pub closed_source : IsClosed before → (answer ≡ Err run.Read) × (after ≡ before)
  pub memory : IfErr answer (λ fault. fault ≡ run.Memory → after.failed ≡ false)
  pub place : IfErr answer (λ fault. fault ≡ run.Memory → RunsOut before after)
  pub trace : IfErr answer (λ fault. IfSome before.bytes (λ text. NamesFirstFault text fault))
  pub write : IfErr answer (λ fault. fault ≡ run.Write → (new.failed ≡ true)
      × IfSome before.bytes (λ text. CertifiesFront text old.bytes new.bytes))
  pub failed_write : IfErr answer (λ fault. fault ≡ run.Write → FailsToWrite old new
      × WasReadWhole before after)
  pub closed_sink : old.failed ≡ true → new ≡ old
  pub unwritten : IfErr answer (λ fault. fault ≢ run.Write → new ≡ old)

-- what each engine does that reads one trace
abbrev pub RunsAs : Engine → SourceState → SourceState → SinkState → SinkState → Result Status RunFault
    → Type 0
RunsAs (engine.Verdict count form) before after old new answer =
    JudgesAlone count form before after old new answer
RunsAs engine.Cert before after old new answer = Shows before after old new answer
RunsAs (engine.Live count) before after old new answer = JudgesLive count before after old new answer

-- the checker's line on the trace and the certificate
pub record Checks (trace trace_after cert cert_after : SourceState) (old new : SinkState)
    (answer : Result Status RunFault) : Type 0 where
  pub line : IfOk answer (λ status. IfSome trace.bytes (λ t. IfSome cert.bytes (λ
      c. Verifies t c old.bytes new.bytes status)))
  pub end : OnOk answer (IsAtEnd trace_after.bytes × (trace_after.ended ≡ true) × IsAtEnd cert_after.bytes
      × (cert_after.ended ≡ true))
  pub faults : IfErr answer IsOfVerifying
  pub read : IfErr answer (λ fault. fault ≡ run.Read → (IsClosed trace_after × (cert_after ≡ cert))
      ⊎ ((trace_after.ended ≡ true) × IsClosed cert_after))
  pub failed_read : IfErr answer (λ fault. fault ≡ run.Read
      → (FailsToRead trace trace_after × (cert_after ≡ cert))
      ⊎ ((trace_after.ended ≡ true) × FailsToRead cert cert_after))
  pub closed_trace : IsClosed trace → (answer ≡ Err run.Read) × (trace_after ≡ trace) × (cert_after ≡ cert)
  pub closed_cert : IsClosed cert → IsErr answer × (cert_after ≡ cert)
  pub memory : IfErr answer (λ fault. fault ≡ run.Memory → (trace_after.failed ≡ false) × ((cert_after ≡ cert)
      ⊎ (cert_after.failed ≡ false)))
  pub place : IfErr answer (λ fault. fault ≡ run.Memory → RunsOutVerifying trace trace_after cert cert_after)
  pub write : IfErr answer (λ fault. fault ≡ run.Write → (new.failed ≡ true)
      × IfSome trace.bytes (λ t. IfSome cert.bytes (λ c. VerifiesFront t c old.bytes new.bytes)))
  pub failed_write : IfErr answer (λ fault. fault ≡ run.Write → FailsToWrite old new
      × (trace_after.ended ≡ true) × (cert_after.ended ≡ true))
  pub closed_sink : old.failed ≡ true → new ≡ old
  pub unwritten : IfErr answer (λ fault. fault ≢ run.Write → new ≡ old)
