-- What is judged of a recording and a certificate, after the reading of texts.
use Rattle.std.specs.Prelude.{◌≡◌, ◌↔◌, ℕ, Bool, IsTrue, Option, Some, None, List, length, slice_get}
use Rattle.events.specs.Names.{NameBytes}
use Rattle.events.specs.History.{History}
use Rattle.specification.specs.Elements.{elements}
use Rattle.specification.specs.Responses.{Responses, responses_of}
use Rattle.specification.specs.LayerRule.{Row, MeetsRuleOf}
use Rattle.specification.specs.Versions.{Version}
use Rattle.specification.specs.ValidCertificate as valid
use Rattle.specification.specs.ValidCertificate.{HasSource, LacksRow, RowIsRight, RowsRightBefore}
use Rattle.specification.specs.ValidCertificate.{RowsMeetRule}
use Rattle.specification.specs.CertificateText as text
use Rattle.specification.specs.Faults as fault
use Rattle.certificate_text.specs.declared.outline.Outline.{Outline}
use Rattle.certificate_text.specs.declared.outline.Outline.TheVariants as outline
use Rattle.cert_check.specs.AnswerOf.{kind_of}
use Rattle.cert_check.specs.Numbering.{IsOf}
use Rattle.cert_check.specs.declared.answer.Answer.{Answer}
use Rattle.cert_check.specs.declared.answer.Answer.TheVariants.{Yes, No}
use Rattle.cert_check.specs.declared.answer.Reason.{Reason}
use Rattle.cert_check.specs.declared.numbered.Numbered.{Numbered}
use Rattle.cert_check.specs.declared.answer.Reason.TheVariants as reason

abbrev pub IsJudgedNo : Version → History → text.Certificate → Reason → Type 0
IsJudgedNo version h c reason.Trace = ⊥
IsJudgedNo version h c reason.CertText = ⊥
IsJudgedNo version h c reason.WrongFault = valid.IsFirstReason version h c valid.wrong_fault
IsJudgedNo version h c reason.NotOrder = valid.IsFirstReason version h c valid.not_order
IsJudgedNo version h c (reason.NotFollowed at) = valid.IsFirstReason version h c (valid.not_followed at)
IsJudgedNo version h c (reason.NoCycle step) = valid.IsFirstReason version h c (valid.no_cycle step)
IsJudgedNo version h c (reason.MissingLayer source) =
    valid.IsFirstReason version h c (valid.missing_layer source)
IsJudgedNo version h c (reason.ShortLayer source) = valid.IsFirstReason version h c (valid.short_layer source)
IsJudgedNo version h c (reason.ExtraLayer source) = valid.IsFirstReason version h c (valid.extra_layer source)

-- the certificate is valid and of this kind, or this is the first reason that holds
abbrev pub IsJudged : Version → History → text.Certificate → Answer → Type 0
IsJudged version h c (Yes k) = valid.IsValid version h c × (kind_of c ≡ k)
IsJudged version h c (No why) = IsJudgedNo version h c why

-- what is judged, in either version, of a recording with this first fault
abbrev pub IsJudgedByFault : text.Certificate → fault.Fault → Answer → Type 0
IsJudgedByFault c found answer = (version : Version) (h : History) → fault.IsFirstFault h found
    → IsJudged version h c answer

-- the fault that an outline names
abbrev pub named : Outline → Option fault.Fault
named (outline.Doubled first again) = Some (fault.doubled first again)
named (outline.Contents at) = Some (fault.contents at)
named (outline.Position at) = Some (fault.position at)
named (outline.Accepted names) = None
named (outline.Refused k steps rows) = None

-- what is wrong with the row at a place
abbrev pub IsRowFault : Version → Responses → ℕ → List Row → ℕ → Reason → Type 0
IsRowFault version v k rows i (reason.MissingLayer source) =
    (slice_get v.elements i ≡ Some source) × LacksRow rows i source
IsRowFault version v k rows i (reason.ShortLayer source) =
    (slice_get v.elements i ≡ Some source)
    × (row : Row) × (slice_get rows i ≡ Some row) × HasSource row source
    × (¬ MeetsRuleOf version v k source row)
IsRowFault version v k rows i why = ⊥

abbrev pub IsRowJudged : Version → Responses → ℕ → List Row → ℕ → Option Reason → Type 0
IsRowJudged version v k rows i None = (source : NameBytes) → slice_get v.elements i ≡ Some source
    → RowIsRight version v k rows i source
IsRowJudged version v k rows i (Some why) = IsRowFault version v k rows i why

-- of each sound recording with these numbers and places: what is wrong with the row at a place
abbrev pub TellsRow : Version → Numbered → ℕ → List Row → ℕ → Option Reason → Type 0
TellsRow version t k rows i found = (h : History) → IsOf h t
    → IsRowJudged version (responses_of h) k rows i found

-- whether the row of the element with this number meets the layer rule of the version
abbrev pub TellsLayerRule : Version → Numbered → ℕ → ℕ → Row → Bool → Type 0
TellsLayerRule version t k source row meets =
    (h : History) (a : NameBytes) → IsOf h t → slice_get (elements h) source ≡ Some a
    → IsTrue meets ↔ MeetsRuleOf version (responses_of h) k a row

-- what is wrong with the rows
abbrev pub AreRowsFault : Version → Responses → ℕ → List Row → Reason → Type 0
AreRowsFault version v k rows (reason.MissingLayer source) =
    (i : ℕ) × (slice_get v.elements i ≡ Some source) × RowsRightBefore version v k rows i
    × LacksRow rows i source
AreRowsFault version v k rows (reason.ShortLayer source) =
    (i : ℕ) × (slice_get v.elements i ≡ Some source) × RowsRightBefore version v k rows i
    × (row : Row) × (slice_get rows i ≡ Some row) × HasSource row source
    × (¬ MeetsRuleOf version v k source row)
AreRowsFault version v k rows (reason.ExtraLayer source) =
    RowsRightBefore version v k rows (length v.elements)
    × (row : Row) × (slice_get rows (length v.elements) ≡ Some row) × HasSource row source
AreRowsFault version v k rows why = ⊥

abbrev pub AreRowsJudged : Version → Responses → ℕ → List Row → Option Reason → Type 0
AreRowsJudged version v k rows None = RowsMeetRule version v k v.elements rows
AreRowsJudged version v k rows (Some why) = AreRowsFault version v k rows why

-- of each sound recording with these numbers and places: what is wrong with the rows
abbrev pub TellsRows : Version → Numbered → ℕ → List Row → Option Reason → Type 0
TellsRows version t k rows found =
    (h : History) → IsOf h t → AreRowsJudged version (responses_of h) k rows found
