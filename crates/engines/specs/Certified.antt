-- What is written and answered where a certificate is asked for, and where one is checked.
use Rattle.std.specs.Prelude.{◌≡◌, ℕ, Option, Some, None, List}
use Rattle.std.specs.Io.KnownBytes.{Appends}
use Rattle.events.specs.History.{History}
use Rattle.specification.specs.Verdict.{Verdict, IsVerdict}
use Rattle.specification.specs.TraceText.{Spells}
use Rattle.specification.specs.CertificateText.{Certificate, certificate_text}
use Rattle.specification.specs.Versions.{two}
use Rattle.specification.specs.ExactRows.{IsCertificateOf}
use Rattle.cert_check.specs.AnswerOf.{IsAnswer}
use Rattle.cert_check.specs.declared.answer.Answer.{Answer}
use Rattle.cert_check.specs.declared.answer.Answer.TheVariants.{Yes, No}
use Rattle.byte_streams.specs.Streams.{AppendsFront}
use Rattle.engines.specs.Lines.{answer_line}
use Rattle.engines.specs.Runs.{status_of}
use Rattle.engines.specs.declared.status.Status.{Status}
use Rattle.engines.specs.declared.status.Status.TheVariants.{Good, Bad}

-- the text of the certificate, in version two, of the verdict on the recording, and the status of that
-- verdict
abbrev pub IsCertificateFor : History → List ℕ → Status → Type 0
IsCertificateFor h output status =
    (v : Verdict) × (c : Certificate) × IsVerdict h v × IsCertificateOf two h v c
    × (output ≡ certificate_text two c) × (status ≡ status_of v)

-- the text of the certificate, in version two, of the verdict on the recording that the text spells, and the
-- status of that verdict
abbrev pub IsCertificateOn : List ℕ → List ℕ → Status → Type 0
IsCertificateOn text output status =
    (h : History) × (v : Verdict) × (c : Certificate) × Spells text h × IsVerdict h v
    × IsCertificateOf two h v c
    × (output ≡ certificate_text two c) × (status ≡ status_of v)

-- exactly that text was appended
abbrev pub Certifies : List ℕ → Option (List ℕ) → Option (List ℕ) → Status → Type 0
Certifies text old new status =
    (output : List ℕ) × IsCertificateOn text output status × Appends old new output

-- a prefix of it was appended
abbrev pub CertifiesFront : List ℕ → Option (List ℕ) → Option (List ℕ) → Type 0
CertifiesFront text old new =
    (output : List ℕ) × (status : Status) × IsCertificateOn text output status × AppendsFront old new output

-- good exactly for a yes
abbrev pub status_of_answer : Answer → Status
status_of_answer (Yes kind) = Good
status_of_answer (No why) = Bad

-- the recording that the text spells; none where it spells none
abbrev pub IsRecordingOf : List ℕ → Option History → Type 0
IsRecordingOf text (Some h) = Spells text h
IsRecordingOf text None = (h : History) → ¬ Spells text h

-- the line of the checker's answer on the two texts, and the status that goes with it
abbrev pub IsLineOn : List ℕ → List ℕ → List ℕ → Status → Type 0
IsLineOn trace cert output status =
    (a : Answer) × IsAnswer trace cert a × (output ≡ answer_line a) × (status ≡ status_of_answer a)

-- exactly that line was appended
abbrev pub Verifies : List ℕ → List ℕ → Option (List ℕ) → Option (List ℕ) → Status → Type 0
Verifies trace cert old new status =
    (output : List ℕ) × IsLineOn trace cert output status × Appends old new output

-- a prefix of it was appended
abbrev pub VerifiesFront : List ℕ → List ℕ → Option (List ℕ) → Option (List ℕ) → Type 0
VerifiesFront trace cert old new =
    (output : List ℕ) × (status : Status) × IsLineOn trace cert output status × AppendsFront old new output
