-- A text has at most one first fault.
use Rattle.std.proofs.Common.{◌≡◌, ℕ, List, [], ◌∷◌, ◌++◌, sym, ◌∙◌, ⊎_elim, append_assoc}
use Rattle.specification.specs.Lines.{Line}
use Rattle.specification.specs.CertificateText as format
use Rattle.specification.specs.CertificateText.{BeginsCertificate, HasWrongLine, LacksCertificateLine}
use Rattle.specification.specs.CertificateText.{IsFirstCertFault, cause_behind}
use Rattle.format_words.proofs.OneFault as shared
use Rattle.certificate_text.proofs.OneCertificate.{beginning-lacks}

abbrev IsWrong : List Line → Line → format.CertCause → Type 0
IsWrong good line cause = (cause ≡ cause_behind good) × ¬ BeginsCertificate (good ++ line ∷ [])

abbrev IsMissing : List Line → format.CertCause → Type 0
IsMissing good cause = cause ≡ cause_behind good

abbrev Fault : List ℕ → ℕ → format.CertCause → Type 0
Fault text number cause = shared.Fault BeginsCertificate IsWrong IsMissing format.cut text number cause

shows-wrong : (text : List ℕ) (number : ℕ) (cause : format.CertCause) → HasWrongLine text number cause
    → Fault text number cause
shows-wrong text number cause f =
    shared.shows-wrong BeginsCertificate IsWrong IsMissing format.cut text number cause f.good f.begins
    (beginning-lacks f.good f.begins) f.faulty f.one_line f.more f.text_is f.number
    (f.cause_is, f.wrong)

shows-lack : (text : List ℕ) (number : ℕ) (cause : format.CertCause) → LacksCertificateLine text number cause
    → Fault text number cause
shows-lack text number cause f =
    shared.shows-lack BeginsCertificate IsWrong IsMissing format.cut text number cause f.good f.begins
    (beginning-lacks f.good f.begins) f.text_is f.number f.cause_is

shows-fault : (text : List ℕ) (number : ℕ) (cause : format.CertCause) → IsFirstCertFault text number cause
    → Fault text number cause
shows-fault text number format.header f =
    ⊎_elim (shows-wrong text number format.header) (shows-lack text number format.header) f
shows-fault text number format.kind f =
    ⊎_elim (shows-wrong text number format.kind) (shows-lack text number format.kind) f
shows-fault text number format.shape f =
    ⊎_elim (shows-wrong text number format.shape) (shows-lack text number format.shape) f
shows-fault text number format.cut f =
    shared.shows-cut BeginsCertificate IsWrong IsMissing format.cut text number f.good f.begins
    (beginning-lacks f.good f.begins) f.rest f.some_byte f.one_line f.text_is f.number

-- a line of a spelling is right
never-wrong : (good : List Line) (line : Line) (between : List Line) (cause : format.CertCause)
    → BeginsCertificate (good ++ line ∷ between) → IsWrong good line cause → ⊥
never-wrong good line between cause (version, c, spellable, more, is) wrong =
    wrong.1 (
      version,
      c,
      spellable,
      between ++ more,
      append_assoc good (line ∷ []) (between ++ more)
          ∙ sym (append_assoc good (line ∷ between) more) ∙ is,
    )

pub one-fault : (text : List ℕ) (line other : ℕ) (cause why : format.CertCause)
    → IsFirstCertFault text line cause → IsFirstCertFault text other why → (line ≡ other) × (cause ≡ why)
one-fault text line other cause why f g =
    shared.one-fault BeginsCertificate IsWrong IsMissing format.cut never-wrong
    (λ good l c w d e. d.0 ∙ sym e.0) (λ good c w d e. d ∙ sym e) text line other cause why
    (shows-fault text line cause f) (shows-fault text other why g)
