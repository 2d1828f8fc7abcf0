-- Laws of certificates.
use Rattle.std.specs.Prelude.{◌≡◌, ℕ, List}
use Rattle.events.specs.History.{History, IsLegal}
use Rattle.specification.specs.Laws as laws
use Rattle.specification.specs.Faults as fault
use Rattle.specification.specs.Verdict.{Verdict, faulty, accepted, refused, IsVerdict}
use Rattle.specification.specs.Versions.{Version}
use Rattle.specification.specs.TraceText.{Spells}
use Rattle.specification.specs.CertificateText.{Certificate, IsSpellable, certificate_text}
use Rattle.specification.specs.ExactRows.{IsCertificateOf}
use Rattle.specification.specs.ValidCertificate.{IsValid, IsFirstReason, Reason}
use Rattle.cert_check.specs.AnswerOf.{Reads, IsAnswer, Implies, kind_of}
use Rattle.cert_check.specs.declared.answer.Answer.{Answer}
use Rattle.cert_check.specs.declared.answer.Answer.TheVariants.{Yes}
use Rattle.cert_check.specs.declared.answer.Kind.{Kind}
use Rattle.cert_check.specs.declared.answer.Kind.TheVariants as kind

abbrev pub LayersBoundCycles : Type 0
LayersBoundCycles = laws.LayersBoundCycles

-- a valid certificate of either version implies what it shows
abbrev pub ValidCertificatesImply : Type 0
ValidCertificatesImply = (version : Version) (h : History) (c : Certificate) → IsLegal h → IsSpellable c
    → IsValid version h c → Implies h c

-- a valid certificate has no reason against it
abbrev pub ValidOrReason : Type 0
ValidOrReason = (version : Version) (h : History) (c : Certificate) (why : Reason) → IsLegal h
    → IsValid version h c → ¬ IsFirstReason version h c why

-- a valid certificate gets a yes, of its kind
abbrev pub ValidCertificatesGetYes : Type 0
ValidCertificatesGetYes = (trace cert : List ℕ) (version : Version) (h : History) (c : Certificate)
    → Reads trace cert version h c → IsValid version h c →
    (a : Answer) → IsAnswer trace cert a → a ≡ Yes (kind_of c)

-- what a verdict's certificate shows
abbrev pub kind_of_verdict : Verdict → Kind
kind_of_verdict (faulty (fault.doubled first again)) = kind.Doubled
kind_of_verdict (faulty (fault.contents at)) = kind.Contents
kind_of_verdict (faulty (fault.position at)) = kind.Position
kind_of_verdict (accepted order) = kind.Accepted
kind_of_verdict (refused k steps) = kind.Refused

-- the spelling, in either version, of the certificate of a recording's verdict, checked against any spelling
-- of the recording, has the answer yes, of the verdict's kind, and no other
abbrev pub VerdictsCertificatesGetYes : Type 0
VerdictsCertificatesGetYes = (version : Version) (h : History) (v : Verdict) (c : Certificate) (text : List ℕ)
    → Spells text h → IsVerdict h v → IsCertificateOf version h v c →
    IsAnswer text (certificate_text version c) (Yes (kind_of_verdict v))
    × ((a : Answer) → IsAnswer text (certificate_text version c) a → a ≡ Yes (kind_of_verdict v))

-- two texts have one right answer at most
abbrev pub AnswersAreUnique : Type 0
AnswersAreUnique = (trace cert : List ℕ) (a b : Answer) → IsAnswer trace cert a → IsAnswer trace cert b
    → a ≡ b
