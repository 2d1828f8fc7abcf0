-- The laws over certificates: a text says one thing, those of verdicts are valid and have a spelling, each
-- verdict has one at most, and merges of the same streams have the same.
use Rattle.std.specs.Prelude.{◌≡◌, ◌⊎◌, ℕ, List}
use Rattle.events.specs.History.{History, IsLegal, SameStreams}
use Rattle.specification.specs.Versions.{Version}
use Rattle.specification.specs.Verdict.{Verdict, IsVerdict}
use Rattle.specification.specs.CertificateText.{Certificate, CertCause, IsSpellable, SpellsCertificate}
use Rattle.specification.specs.CertificateText.{IsFirstCertFault}
use Rattle.specification.specs.ValidCertificate.{IsValid}
use Rattle.specification.specs.ExactRows.{IsCertificateOf}

-- a text spells one certificate at most, in one version
abbrev pub TextsSpellOneCertificate : Type 0
TextsSpellOneCertificate =
    (text : List ℕ) (version other : Version) (c d : Certificate) → SpellsCertificate text version c
    → SpellsCertificate text other d → (version ≡ other) × (c ≡ d)

-- a text that spells a certificate has no fault
abbrev pub SpelledTextsHaveNoFault : Type 0
SpelledTextsHaveNoFault = (text : List ℕ) (version : Version) (c : Certificate) (line : ℕ) (cause : CertCause)
    → SpellsCertificate text version c → ¬ IsFirstCertFault text line cause

-- a text has at most one first fault
abbrev pub TextsHaveOneFirstFault : Type 0
TextsHaveOneFirstFault =
    (text : List ℕ) (line other : ℕ) (cause why : CertCause) → IsFirstCertFault text line cause
    → IsFirstCertFault text other why → (line ≡ other) × (cause ≡ why)

-- each text spells a certificate or has a fault
abbrev pub EachTextSpellsOrHasFault : Type 0
EachTextSpellsOrHasFault =
    (text : List ℕ) → ((version : Version) × (c : Certificate) × SpellsCertificate text version c)
    ⊎ ((line : ℕ) × (cause : CertCause) × IsFirstCertFault text line cause)

-- the certificate of either version of a verdict on a legal recording is valid, and has a spelling
abbrev pub CertificatesAreValid : Type 0
CertificatesAreValid = (version : Version) (h : History) (v : Verdict) (c : Certificate) → IsLegal h
    → IsVerdict h v → IsCertificateOf version h v c → IsValid version h c × IsSpellable c

-- a legal recording has one certificate of a version at most
abbrev pub CertificatesAreUnique : Type 0
CertificatesAreUnique =
    (version : Version) (h : History) (v w : Verdict) (c d : Certificate) → IsLegal h → IsVerdict h v
    → IsVerdict h w → IsCertificateOf version h v c → IsCertificateOf version h w d → c ≡ d

-- merges of the same streams have the same
abbrev pub CertificatesAreOfStreams : Type 0
CertificatesAreOfStreams =
    (version : Version) (g h : History) (v : Verdict) (c : Certificate) → SameStreams g h → IsVerdict g v
    → IsCertificateOf version g v c → IsVerdict h v × IsCertificateOf version h v c
