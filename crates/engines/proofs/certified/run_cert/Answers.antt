use Rattle.std.proofs.Common.{List, Vec, ℕ, Global, inl, inr, refl, sym, subst, IfSome}
use Rattle.engines.proofs.Failures.{handed-read, not-taken, ok-is-err}
use Rattle.engines.proofs.Written.{handed-on, written-on, front-on, certificate-on}
use Rattle.certificate.specs.ByRows.{joined}
use Rattle.engines.specs.Certified.{IsCertificateFor, IsCertificateOn}
use Rattle.engines.specs.declared.status.Status.{Status}
use Rattle.engines.proofs.certified.run_cert.Given.{Over}
use Rattle.engines.proofs.certified.run_cert.Goals.{After-status_of}
use Rattle.engines.proofs.certified.run_cert.Goals as goal

-- the texts are those of a certificate on the text that was read
are-of : (g : Over) (c : After-status_of g) → IfSome c.args.source.now.bytes
    (λ text. IsCertificateOn text (joined c.deref.result.now) c.status_of.result)
are-of g c =
    let h = c.in_ok-recording.recording in
    let status = c.status_of.result in
    certificate-on c.args.source.now.bytes h (joined c.deref.result.now) status c.in_ok-recording.ensures.ok
    (subst (λ (texts : List (Vec ℕ Global)). IsCertificateFor h (joined texts) status)
    (sym c.deref.ensures.value)
    (subst (λ (s : Status). IsCertificateFor h (joined c.in_ok-certified.certified.texts.items) s)
    (sym c.status_of.ensures) c.in_ok-certified.ensures))

pub returns-clause-certificate : goal.returns-clause-certificate
returns-clause-certificate g c =
    written-on IsCertificateOn c.args.source.now.bytes _ _ (joined c.deref.result.now) c.status_of.result
    c.write_texts.result (are-of g (goal.at.returns-clause-certificate g c).After-status_of)
    c.write_texts.ensures.ok

pub returns-clause-write : goal.returns-clause-write
returns-clause-write g c =
    front-on IsCertificateOn _ c.args.source.now.bytes _ _ (joined c.deref.result.now) c.status_of.result
    c.write_texts.result (are-of g (goal.at.returns-clause-write g c).After-status_of)
    c.write_texts.ensures.err

pub returns-in_err-recording-clause-place : goal.returns-in_err-recording-clause-place
returns-in_err-recording-clause-place g c =
    handed-on _ c.from_residual.result c.from_residual.ensures.1
    (λ memory. inl (c.in_err-recording.ensures.place memory))

pub returns-in_err-certified-clause-place : goal.returns-in_err-certified-clause-place
returns-in_err-certified-clause-place g c =
    let end = c.in_ok-recording.ensures.end in
    handed-on _ c.from_residual-in_err-certified.result c.from_residual-in_err-certified.ensures.1
    (λ _. inr (c.in_ok-recording.recording, end.2, end.0, c.in_ok-recording.ensures.ok))

pub returns-clause-failed_write : goal.returns-clause-failed_write
returns-clause-failed_write g c =
    let end = c.in_ok-recording.ensures.end in
    not-taken _ _ c.write_texts.result c.write_texts.ensures.failed_write
    (c.in_ok-recording.recording, end.2, end.0, c.in_ok-recording.ensures.ok)

pub returns-clause-closed_source : goal.returns-clause-closed_source
returns-clause-closed_source g c =
    λ shut. absurd (ok-is-err (c.in_ok-recording.ensures.closed_source shut).0)

pub returns-in_err-certified-clause-closed_source : goal.returns-in_err-certified-clause-closed_source
returns-in_err-certified-clause-closed_source g c =
    λ shut. absurd (ok-is-err (c.in_ok-recording.ensures.closed_source shut).0)

pub returns-in_err-recording-clause-closed_source : goal.returns-in_err-recording-clause-closed_source
returns-in_err-recording-clause-closed_source g c = λ shut.
    let was = c.in_err-recording.ensures.closed_source shut in
    (handed-read c.from_residual.result _ c.from_residual.ensures.1 refl was.0, was.1)
