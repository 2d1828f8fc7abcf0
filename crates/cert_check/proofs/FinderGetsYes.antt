-- What the finder writes gets yes.
use Rattle.std.proofs.Common.{◌≡◌, ℕ, zero, suc, List, refl, ap, ◌∙◌}
use Rattle.events.specs.History.{History}
use Rattle.specification.specs.Faults as fault
use Rattle.specification.specs.Verdict.{Verdict, faulty, accepted, refused}
use Rattle.specification.specs.Versions.{Version}
use Rattle.specification.specs.CertificateText.{Certificate, certificate_text}
use Rattle.specification.specs.ExactRows.{IsCertificateOf}
use Rattle.certificate_text.proofs.VerdictCertificates.{certificates_are_valid}
use Rattle.certificate_text.proofs.OneCertificate.{one-certificate}
use Rattle.cert_check.specs.AnswerOf.{Reads, kind_of}
use Rattle.cert_check.specs.Laws.{kind_of_verdict, VerdictsCertificatesGetYes}
use Rattle.cert_check.specs.declared.answer.Answer.TheVariants.{Yes}
use Rattle.cert_check.proofs.ReasonsExclude.{get_yes}

kind-of : (version : Version) (h : History) (v : Verdict) (c : Certificate) → IsCertificateOf version h v c
    → kind_of c ≡ kind_of_verdict v
kind-of version h (faulty (fault.doubled first again)) c is = ap kind_of is
kind-of version h (faulty (fault.contents at)) c is = ap kind_of is
kind-of version h (faulty (fault.position at)) c is = ap kind_of is
kind-of version h (accepted order) c is = ap kind_of is
kind-of version h (refused zero steps) c is = absurd is
kind-of version h (refused (suc zero) steps) c is = absurd is
kind-of version h (refused (suc (suc zero)) steps) c is = ap kind_of is
kind-of version h (refused (suc (suc (suc n))) steps) c is = ap kind_of is.1

pub finder_gets_yes : VerdictsCertificatesGetYes
finder_gets_yes version h v c text spelled verdict is =
    let good = certificates_are_valid version h v c spelled.1.0 verdict is in
    let cert : List ℕ = certificate_text version c in
    let reads : Reads text cert version h c = (spelled, (good.1, refl)) in
    let kind = kind-of version h v c is in (
      (version, h, c, reads, good.0, kind),
      (λ a answer. get_yes one-certificate text cert version h c reads good.0 a answer ∙ ap Yes kind),
    )
