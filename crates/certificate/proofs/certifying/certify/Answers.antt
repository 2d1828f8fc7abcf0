-- The law on certificates of verdicts.
use Rattle.std.proofs.lemmas.Result.{IfOk-weaker}
use Rattle.specification.specs.Versions.{two}
use Rattle.certificate_text.specs.CertificateOf.{certificate_of}
use Rattle.certificate_text.proofs.VerdictCertificates.{certificates_are_valid}
use Rattle.verdict.specs.VerdictOf.{verdict_of}
use Rattle.certificate.proofs.certifying.certify.Goals as goal

pub returns-clause-valid : goal.returns-clause-valid
returns-clause-valid c =
    IfOk-weaker c.certificate_for.result _ _
    (λ d is. certificates_are_valid two c.args.recording.now (verdict_of c.args.verdict.now)
    (certificate_of d) c.replicas.ensures.legal c.requires.verdict is)
    c.certificate_for.ensures
