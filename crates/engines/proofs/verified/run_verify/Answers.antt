use Rattle.std.proofs.Common.{ℕ, List, IfSome, inl, inr, refl}
use Rattle.std.proofs.lemmas.Result.{IfErr-weaker}
use Rattle.engines.proofs.Failures.{handed-read, is-err, ok-is-err}
use Rattle.engines.proofs.Written.{handed-on, of-both, written-of-both, front-of-both}
use Rattle.engines.specs.Certified.{IsLineOn, IsRecordingOf}
use Rattle.engines.proofs.verified.run_verify.Given.{Over}
use Rattle.engines.proofs.verified.run_verify.Goals.{In_ok-output}
use Rattle.engines.proofs.verified.run_verify.Goals as goal

-- the line is that on the two texts that were read
is-of : (g : Over) (c : In_ok-output g) → IfSome c.args.trace.now.bytes (λ trace. IfSome c.args.cert.now.bytes
    (λ cert. IsLineOn trace cert c.in_ok-output.output.bytes.items c.in_ok-output.output.status))
is-of g c =
    let cert = c.in_ok-cert_text.ensures.ok in
    let output = c.in_ok-output.output in
    of-both (λ (t : List ℕ). IsRecordingOf t c.in_ok-recording.recording) IsLineOn _ _ _ c.deref.result.now
    c.in_ok-cert_text.cert_text.items output.bytes.items output.status
    c.in_ok-recording.ensures.ok record {
      consumed = cert.0;
      ended = cert.1;
      same = c.deref.ensures.value;
    } c.in_ok-output.ensures

pub returns-clause-answer : goal.returns-clause-answer
returns-clause-answer g c =
    let output = c.in_ok-output.output in
    written-of-both IsLineOn _ _ _ _ output.bytes.items output.status c.write_output.result
    (is-of g (goal.at.returns-clause-answer g c).In_ok-output) c.write_output.ensures.ok

pub returns-clause-write : goal.returns-clause-write
returns-clause-write g c =
    let output = c.in_ok-output.output in
    front-of-both IsLineOn _ _ _ _ _ output.bytes.items output.status c.write_output.result
    (is-of g (goal.at.returns-clause-write g c).In_ok-output) c.write_output.ensures.err

pub returns-in_err-recording-clause-place : goal.returns-in_err-recording-clause-place
returns-in_err-recording-clause-place g c =
    handed-on _ c.from_residual.result c.from_residual.ensures.1
    (λ memory. inl (c.in_err-recording.ensures.place memory, refl))

pub returns-in_err-cert_text-clause-place : goal.returns-in_err-cert_text-clause-place
returns-in_err-cert_text-clause-place g c =
    handed-on _ c.from_residual-in_err-cert_text.result c.from_residual-in_err-cert_text.ensures.1
    (λ memory. inr (c.in_ok-recording.ensures.end.2, inl (c.in_err-cert_text.ensures.some memory)))

pub returns-in_err-output-clause-place : goal.returns-in_err-output-clause-place
returns-in_err-output-clause-place g c =
    handed-on _ c.from_residual-in_err-output.result c.from_residual-in_err-output.ensures.1
    (λ _. inr (c.in_ok-recording.ensures.end.2, inr c.in_ok-cert_text.ensures.ok.3))

pub returns-clause-failed_write : goal.returns-clause-failed_write
returns-clause-failed_write g c =
    IfErr-weaker c.write_output.result _ _
    (λ fault fails _. (fails, c.in_ok-recording.ensures.end.2, c.in_ok-cert_text.ensures.ok.3))
    c.write_output.ensures.failed_write

pub returns-in_err-recording-clause-failed_read : goal.returns-in_err-recording-clause-failed_read
returns-in_err-recording-clause-failed_read g c =
    handed-on _ c.from_residual.result c.from_residual.ensures.1
    (λ read. inl (c.in_err-recording.ensures.failed_read read, refl))

pub returns-in_err-cert_text-clause-failed_read : goal.returns-in_err-cert_text-clause-failed_read
returns-in_err-cert_text-clause-failed_read g c =
    handed-on _ c.from_residual-in_err-cert_text.result c.from_residual-in_err-cert_text.ensures.1
    (λ read. inr (c.in_ok-recording.ensures.end.2, c.in_err-cert_text.ensures.failed_read read))

pub returns-in_err-recording-clause-closed_trace : goal.returns-in_err-recording-clause-closed_trace
returns-in_err-recording-clause-closed_trace g c = λ shut.
    let was = c.in_err-recording.ensures.closed_source shut in
    (handed-read c.from_residual.result _ c.from_residual.ensures.1 refl was.0, was.1, refl)

pub returns-in_err-recording-clause-closed_cert : goal.returns-in_err-recording-clause-closed_cert
returns-in_err-recording-clause-closed_cert g c =
    λ _. (is-err _ c.from_residual.result c.from_residual.ensures.1, refl)

pub returns-in_err-cert_text-clause-closed_cert : goal.returns-in_err-cert_text-clause-closed_cert
returns-in_err-cert_text-clause-closed_cert g c = λ shut. (
  is-err _ c.from_residual-in_err-cert_text.result c.from_residual-in_err-cert_text.ensures.1,
  (c.in_err-cert_text.ensures.closed_source shut).1,
)

pub returns-in_err-cert_text-clause-closed_trace : goal.returns-in_err-cert_text-clause-closed_trace
returns-in_err-cert_text-clause-closed_trace g c =
    λ shut. absurd (ok-is-err (c.in_ok-recording.ensures.closed_source shut).0)

pub returns-in_err-output-clause-closed_trace : goal.returns-in_err-output-clause-closed_trace
returns-in_err-output-clause-closed_trace g c =
    λ shut. absurd (ok-is-err (c.in_ok-recording.ensures.closed_source shut).0)

pub returns-clause-closed_trace : goal.returns-clause-closed_trace
returns-clause-closed_trace g c =
    λ shut. absurd (ok-is-err (c.in_ok-recording.ensures.closed_source shut).0)

pub returns-in_err-output-clause-closed_cert : goal.returns-in_err-output-clause-closed_cert
returns-in_err-output-clause-closed_cert g c =
    λ shut. absurd (ok-is-err (c.in_ok-cert_text.ensures.closed_source shut).0)

pub returns-clause-closed_cert : goal.returns-clause-closed_cert
returns-clause-closed_cert g c =
    λ shut. absurd (ok-is-err (c.in_ok-cert_text.ensures.closed_source shut).0)
