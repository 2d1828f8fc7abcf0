-- The first fault is known.
use Rattle.certificate_text.specs.CertificateOf.{version_in}
use Rattle.cert_check.proofs.judging.judge.Goals as goal

pub returns-in-Faulty : goal.returns-in-Faulty
returns-in-Faulty c = λ d spellable outlines.
    c.judge_fault.ensures d outlines (version_in c.args.version) c.args.recording.now (let first =
    rw c.in-Faulty.is at c.in_ok-fault.ensures in first)
