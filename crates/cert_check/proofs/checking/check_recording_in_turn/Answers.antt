-- What the text spells is what was read.
use Rattle.std.proofs.lemmas.Result.{IfOk-weaker}
use Rattle.certificate_text.specs.CertificateOf.{version_in}
use Rattle.certificate_text.proofs.OneCertificate.{one-certificate}
use Rattle.cert_check.proofs.Implied.{if_err, implied_on, judged_on}
use Rattle.cert_check.proofs.checking.check_recording_in_turn.Goals as goal

pub returns-in-Ok : goal.returns-in-Ok
returns-in-Ok c =
    let ok = c.in-Ok.ensures.ok in
    let version = version_in c.in-Ok.version in
    let judged =
    IfOk-weaker c.judge.result _ _ (λ a judged. judged ok.0 ok.1.0 ok.2) c.judge.ensures in
    record {
      answer = judged_on c.args.cert.now version c.args.recording.now ok.0 c.judge.result ok.1 judged;
      implies = implied_on c.args.cert.now version c.args.recording.now ok.0 c.judge.result
          c.replicas-replicas.ensures.legal ok.1.0
          (λ other d spells. one-certificate c.args.cert.now version other ok.0 d ok.1 spells) judged;
      memory = if_err c.judge.result _ (version, ok.0, ok.1);
    }

pub returns-in-Err-clause-answer : goal.returns-in-Err-clause-answer
returns-in-Err-clause-answer c =
    λ trace spells. (
      (c.args.recording.now, spells),
      (λ version d spelled. c.in-Err.ensures.spelled version d spelled),
    )
