-- What an outline says of a certificate, and what reading one line by line answers.
use Rattle.std.specs.Prelude.{◌≡◌, ◌≢◌, ℕ, ◌≤◌, ◌⊎◌, List, [], ◌∷◌, ◌++◌, length, map, IfSome, Bool, true}
use Rattle.std.specs.Prelude.{false, Option, None}
use Rattle.events.specs.Names.{NameBytes}
use Rattle.specification.specs.Conflict.{Step}
use Rattle.specification.specs.Faults as fault
use Rattle.specification.specs.LayerRule.{Row}
use Rattle.specification.specs.Lines.{Line, text_of, names_text, IsOneLine}
use Rattle.specification.specs.CertificateText.{Certificate, names_fault, gives_order, gives_cycle, step_line}
use Rattle.specification.specs.CertificateText.{row_line, kind_lines, version_line, IsSpellable}
use Rattle.specification.specs.CertificateText.{IsFirstCertFault}
use Rattle.specification.specs.Versions.{Version}
use Rattle.format_words.specs.Reading.{GivesOne}
use Rattle.certificate_text.specs.CertificateOf.{cause_of}
use Rattle.certificate_text.specs.declared.fault.CertCause.{CertCause}
use Rattle.certificate_text.specs.declared.fault.CertCause.TheVariants as cause
use Rattle.certificate_text.specs.declared.kind.Kind.{Kind}
use Rattle.certificate_text.specs.declared.kind.Kind.TheVariants as kind
use Rattle.certificate_text.specs.Progress.{kind_line}
use Rattle.certificate_text.specs.declared.outline.Outline.{Outline}
use Rattle.certificate_text.specs.declared.outline.Outline.TheVariants.{Doubled, Contents, Position, Accepted}
use Rattle.certificate_text.specs.declared.outline.Outline.TheVariants.{Refused}

-- its short parts are those of the certificate, and its texts those of the certificate's long parts
abbrev pub Outlines : Outline → Certificate → Type 0
Outlines (Doubled first again) c = c ≡ names_fault (fault.doubled first again)
Outlines (Contents at) c = c ≡ names_fault (fault.contents at)
Outlines (Position at) c = c ≡ names_fault (fault.position at)
Outlines (Accepted names) c =
    (order : List NameBytes) × (c ≡ gives_order order) × (names.now ≡ names_text order)
Outlines (Refused k steps rows) c =
    (ss : List Step) × (layers : List Row) × (c ≡ gives_cycle k ss layers)
    × (steps.now ≡ text_of (map step_line ss)) × (rows.now ≡ text_of (map row_line layers))

-- there is something to be read
abbrev pub Tells : {Y : Type 0} → Bool → Option Y → Type 0
Tells true read = GivesOne (λ _. Unit {0}) read
Tells false read = read ≡ None

-- why no line stands first in the text: it is missing, which has the cause `unsaid`, or it has no LF
abbrev pub HasNoLine : CertCause → List ℕ → CertCause → Type 0
HasNoLine unsaid text why =
    ((why ≡ unsaid) × (text ≡ [])) ⊎ ((why ≡ cause.Cut) × (1 ≤ length text) × IsOneLine text)

-- the text begins with a line of which this holds
abbrev pub BeginsUnread : (Line → Type 0) → List ℕ → Type 0
BeginsUnread Unread text =
    (line : Line) × (more : List ℕ) × IsOneLine line × (text ≡ line ++ 10 ∷ more) × Unread line

-- why no line that is read stands first in the text: no line does, or it says another thing, which has the
-- cause `unsaid`
abbrev pub Misses : CertCause → (Line → Type 0) → List ℕ → CertCause → Type 0
Misses unsaid Unread text why = HasNoLine unsaid text why ⊎ ((why ≡ unsaid) × BeginsUnread Unread text)

-- where the text goes on so after right lines, this is its first fault, and it is none of memory
abbrev pub IsFaultBehind : List Line → List ℕ → ℕ → CertCause → Type 0
IsFaultBehind lines text line why =
    IfSome (cause_of why) (IsFirstCertFault (text_of lines ++ text) line) × (why ≢ cause.Memory)

-- after a second line of this kind, the text ends a certificate of this outline
abbrev pub EndsOutline : Kind → List ℕ → Outline → Type 0
EndsOutline k text outline = (c : Certificate) × IsSpellable c
    × (text_of (kind_line k ∷ []) ++ text ≡ text_of (kind_lines c)) × Outlines outline c

-- a second line of this kind names a fault
abbrev pub NamesFault : Kind → Type 0
NamesFault (kind.Doubled first again) = Unit {0}
NamesFault (kind.Contents at) = Unit {0}
NamesFault (kind.Position at) = Unit {0}
NamesFault kind.Accepted = ⊥
NamesFault (kind.Refused k) = ⊥

-- the fault that a second line of this kind names is all that this outline says
abbrev pub SaysAll : Kind → Outline → Type 0
SaysAll (kind.Doubled first again) outline = outline ≡ Doubled first again
SaysAll (kind.Contents at) outline = outline ≡ Contents at
SaysAll (kind.Position at) outline = outline ≡ Position at
SaysAll kind.Accepted outline = ⊥
SaysAll (kind.Refused k) outline = ⊥

-- after the first line of any version and a second line of this kind, this is the first fault
abbrev pub IsFaultOfKind : Kind → List ℕ → ℕ → CertCause → Type 0
IsFaultOfKind k text line why =
    (version : Version) → IsFaultBehind (version_line version ∷ kind_line k ∷ []) text line why
