use Rattle.std.proofs.Common.{Err, Ok, inl, inr, refl}
use Rattle.command_line.specs.declared.task.Form.TheVariants.{Text}
use Rattle.engines.proofs.Failures.{handed-read, ok-is-err}
use Rattle.engines.proofs.Written.{handed-on, written-on, front-on, report-on}
use Rattle.live_engine.proofs.Sessions.{stalled-on, watched-on}
use Rattle.engines.specs.Runs.{IsReportOf}
use Rattle.live_engine.proofs.rehearsed.live.Goals as goal

pub returns-in-Ok-clause-report : goal.returns-in-Ok-clause-report
returns-in-Ok-clause-report g c =
    written-on (λ t o s. IsReportOf t Text o s) c.args.source.now.bytes _ _ _ _ (Ok c.in-Ok.status)
    (report-on c.args.source.now.bytes c.in_ok-recording.recording Text
    c.in_ok-judged.judged.output.bytes.items c.in_ok-judged.judged.output.status c.in_ok-recording.ensures.ok
    c.in_ok-judged.ensures.ok)
    c.in-Ok.ensures.ok

pub returns-in-Ok-clause-watched : goal.returns-in-Ok-clause-watched
returns-in-Ok-clause-watched g c =
    watched-on c.args.source.now.bytes c.in_ok-recording.recording c.in_ok-judged.judged.verdicts
    c.in_ok-recording.ensures.ok c.in_ok-judged.ensures.watched

pub returns-clause-write : goal.returns-clause-write
returns-clause-write g c =
    front-on (λ t o s. IsReportOf t Text o s) _ c.args.source.now.bytes _ _ _ _ (Err c.in-Err.fault)
    (report-on c.args.source.now.bytes c.in_ok-recording.recording Text
    c.in_ok-judged.judged.output.bytes.items c.in_ok-judged.judged.output.status c.in_ok-recording.ensures.ok
    c.in_ok-judged.ensures.ok)
    c.in-Err.ensures.err

pub returns-in_err-recording-clause-place : goal.returns-in_err-recording-clause-place
returns-in_err-recording-clause-place g c =
    handed-on _ c.from_residual.result c.from_residual.ensures.1
    (λ memory. inl (c.in_err-recording.ensures.place memory))

pub returns-in_err-judged-clause-place : goal.returns-in_err-judged-clause-place
returns-in_err-judged-clause-place g c =
    let end = c.in_ok-recording.ensures.end in
    handed-on _ c.from_residual-in_err-judged.result c.from_residual-in_err-judged.ensures.1
    (λ _. inr (c.in_ok-recording.recording, end.2, end.0, c.in_ok-recording.ensures.ok))

pub returns-in_err-judged-clause-stalled : goal.returns-in_err-judged-clause-stalled
returns-in_err-judged-clause-stalled g c =
    handed-on _ c.from_residual-in_err-judged.result c.from_residual-in_err-judged.ensures.1
    (λ e. stalled-on c.args.source.now.bytes c.in_ok-recording.recording c.in_ok-recording.ensures.ok
    (c.in_err-judged.ensures.stalled e))

pub returns-in_err-recording-clause-closed_source : goal.returns-in_err-recording-clause-closed_source
returns-in_err-recording-clause-closed_source g c = λ shut.
    let was = c.in_err-recording.ensures.closed_source shut in
    (was.1, λ _. handed-read c.from_residual.result _ c.from_residual.ensures.1 refl was.0)

pub returns-in-Ok-clause-closed_source : goal.returns-in-Ok-clause-closed_source
returns-in-Ok-clause-closed_source g c =
    λ shut. absurd (ok-is-err (c.in_ok-recording.ensures.closed_source shut).0)

pub returns-in_err-judged-clause-closed_source : goal.returns-in_err-judged-clause-closed_source
returns-in_err-judged-clause-closed_source g c =
    λ shut. absurd (ok-is-err (c.in_ok-recording.ensures.closed_source shut).0)
