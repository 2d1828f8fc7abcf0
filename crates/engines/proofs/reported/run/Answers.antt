use Rattle.std.proofs.Common.{inl, inr, refl}
use Rattle.engines.proofs.Failures.{handed-read, not-taken, ok-is-err}
use Rattle.engines.proofs.Written.{handed-on, written-on, front-on, report-on}
use Rattle.engines.specs.Runs.{IsReportOf}
use Rattle.engines.proofs.reported.run.Goals as goal

pub returns-clause-report : goal.returns-clause-report
returns-clause-report g c =
    written-on (λ t o s. IsReportOf t c.args.form o s) c.args.source.now.bytes _ _ _ _ c.write_output.result
    (report-on c.args.source.now.bytes c.in_ok-recording.recording c.args.form
    c.in_ok-report.report.bytes.items c.in_ok-report.report.status c.in_ok-recording.ensures.ok
    c.in_ok-report.ensures)
    c.write_output.ensures.ok

pub returns-clause-write : goal.returns-clause-write
returns-clause-write g c =
    front-on (λ t o s. IsReportOf t c.args.form o s) _ c.args.source.now.bytes _ _ _ _ c.write_output.result
    (report-on c.args.source.now.bytes c.in_ok-recording.recording c.args.form
    c.in_ok-report.report.bytes.items c.in_ok-report.report.status c.in_ok-recording.ensures.ok
    c.in_ok-report.ensures)
    c.write_output.ensures.err

pub returns-in_err-recording-clause-place : goal.returns-in_err-recording-clause-place
returns-in_err-recording-clause-place g c =
    handed-on _ c.from_residual.result c.from_residual.ensures.1
    (λ memory. inl (c.in_err-recording.ensures.place memory))

pub returns-in_err-report-clause-place : goal.returns-in_err-report-clause-place
returns-in_err-report-clause-place g c =
    let end = c.in_ok-recording.ensures.end in
    handed-on _ c.from_residual-in_err-report.result c.from_residual-in_err-report.ensures.1
    (λ _. inr (c.in_ok-recording.recording, end.2, end.0, c.in_ok-recording.ensures.ok))

pub returns-clause-failed_write : goal.returns-clause-failed_write
returns-clause-failed_write g c =
    let end = c.in_ok-recording.ensures.end in
    not-taken _ _ c.write_output.result c.write_output.ensures.failed_write
    (c.in_ok-recording.recording, end.2, end.0, c.in_ok-recording.ensures.ok)

pub returns-clause-closed_source : goal.returns-clause-closed_source
returns-clause-closed_source g c =
    λ shut. absurd (ok-is-err (c.in_ok-recording.ensures.closed_source shut).0)

pub returns-in_err-report-clause-closed_source : goal.returns-in_err-report-clause-closed_source
returns-in_err-report-clause-closed_source g c =
    λ shut. absurd (ok-is-err (c.in_ok-recording.ensures.closed_source shut).0)

pub returns-in_err-recording-clause-closed_source : goal.returns-in_err-recording-clause-closed_source
returns-in_err-recording-clause-closed_source g c = λ shut.
    let was = c.in_err-recording.ensures.closed_source shut in
    (was.1, λ _. handed-read c.from_residual.result _ c.from_residual.ensures.1 refl was.0)
