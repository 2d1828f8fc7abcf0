-- A text has at most one first fault.
use Rattle.std.proofs.Common.{◌≡◌, ℕ, List, [], ◌∷◌, ◌++◌, refl, sym, ap, ◌∙◌, Some, inl, inr}
use Rattle.std.proofs.lemmas.List.{append_assoc}
use Rattle.std.proofs.lemmas.Option.{same_Some}
use Rattle.events.specs.History.{History}
use Rattle.events.specs.Session.{first_refusal}
use Rattle.events.specs.declared.refusal.Refusal.{Refusal}
use Rattle.events.specs.declared.entry.Entry.{Entry}
use Rattle.specification.specs.Lines.{Line}
use Rattle.specification.specs.TraceText as format
use Rattle.specification.specs.TraceText.{header_line, entry_line, trace_lines, IsEntry, IsSpelledIn}
use Rattle.specification.specs.TraceText.{IsFaultyLine, IsMissingLine, BeginsSpelling, HasWholeFault, IsCutAt}
use Rattle.specification.specs.TraceText.{LacksLine, IsFirstLineFault}
use Rattle.specification.specs.Versions.{Version}
use Rattle.format_words.proofs.OneFault as shared
use Rattle.trace_text.proofs.TextLines.{beginning-lacks}
use Rattle.trace_text.proofs.Spelled.{one-spelling}
use Rattle.trace_text.proofs.OneReading.{same-history, line-right}

abbrev Fault : List ℕ → ℕ → format.Cause → Type 0
Fault text number cause = shared.Fault BeginsSpelling IsFaultyLine IsMissingLine format.cut text number cause

shows-whole : (text : List ℕ) (number : ℕ) (cause : format.Cause) → HasWholeFault text number cause
    → Fault text number cause
shows-whole text number cause f =
    shared.shows-wrong BeginsSpelling IsFaultyLine IsMissingLine format.cut text number cause f.good f.begins
    (beginning-lacks f.good f.begins) f.faulty f.one_line f.more f.text_is f.number f.is_faulty

shows-lack : (text : List ℕ) (number : ℕ) (cause : format.Cause) → LacksLine text number cause
    → Fault text number cause
shows-lack text number cause f =
    shared.shows-lack BeginsSpelling IsFaultyLine IsMissingLine format.cut text number cause f.good f.begins
    (beginning-lacks f.good f.begins) f.text_is f.number f.missing

shows-cut : (text : List ℕ) (number : ℕ) → IsCutAt text number → Fault text number format.cut
shows-cut text number f =
    shared.shows-cut BeginsSpelling IsFaultyLine IsMissingLine format.cut text number f.good f.begins
    (beginning-lacks f.good f.begins) f.rest f.some_byte f.one_line f.text_is f.number

shows-fault : (text : List ℕ) (number : ℕ) (cause : format.Cause) → IsFirstLineFault text number cause
    → Fault text number cause
shows-fault text number format.header (inl f) = shows-whole text number format.header f
shows-fault text number format.header (inr f) = shows-lack text number format.header f
shows-fault text number format.replicas (inl f) = shows-whole text number format.replicas f
shows-fault text number format.replicas (inr f) = shows-lack text number format.replicas f
shows-fault text number format.shape f = shows-whole text number format.shape f
shows-fault text number format.cut f = shows-cut text number f
shows-fault text number (format.refused why) f = shows-whole text number (format.refused why) f

-- a line of a spelling is right
never-faulty : (good : List Line) (line : Line) (between : List Line) (cause : format.Cause)
    → BeginsSpelling (good ++ line ∷ between) → IsFaultyLine good line cause → ⊥
never-faulty good line between cause (version, h, spelled, more, is) faulty =
    line-right version h good line (between ++ more) cause spelled
    (sym is ∙ append_assoc good (line ∷ between) more) faulty

-- a line is faulty for one cause
same-refusal : (lines : List Line) (line : Line) (cause why : Refusal) (v w : Version) (g h : History)
    → IsSpelledIn v g → IsSpelledIn w h → trace_lines v g ≡ lines → trace_lines w h ≡ lines → (d e : Entry)
    → IsEntry v d → IsEntry w e →
    line ≡ entry_line d → line ≡ entry_line e → first_refusal g.replicas g.entries d ≡ Some cause
    → first_refusal h.replicas h.entries e ≡ Some why → cause ≡ why
same-refusal lines line cause why v w g h legal well is so d e k l spelled again first second =
    let history : g ≡ h = same-history v w g h legal well (is ∙ sym so) in
    let entry : d ≡ e = one-spelling v w d e k l (sym spelled ∙ again) in
    same_Some cause why (sym first ∙ ap (λ (x : History). first_refusal x.replicas x.entries d) history
    ∙ ap (first_refusal h.replicas h.entries) entry ∙ second)

same-cause : (good : List Line) (line : Line) (cause why : format.Cause) → IsFaultyLine good line cause
    → IsFaultyLine good line why → cause ≡ why
same-cause [] line format.header format.header f g = refl
same-cause [] line format.header format.replicas f g = absurd g
same-cause [] line format.header format.shape f g = absurd g
same-cause [] line format.header format.cut f g = absurd g
same-cause [] line format.header (format.refused y) f g = absurd g
same-cause [] line format.replicas why f g = absurd f
same-cause [] line format.shape why f g = absurd f
same-cause [] line format.cut why f g = absurd f
same-cause [] line (format.refused x) why f g = absurd f
same-cause (a ∷ []) line format.replicas format.replicas f g = refl
same-cause (a ∷ []) line format.replicas format.header f g = absurd g
same-cause (a ∷ []) line format.replicas format.shape f g = absurd g
same-cause (a ∷ []) line format.replicas format.cut f g = absurd g
same-cause (a ∷ []) line format.replicas (format.refused y) f g = absurd g
same-cause (a ∷ []) line format.header why f g = absurd f
same-cause (a ∷ []) line format.shape why f g = absurd f
same-cause (a ∷ []) line format.cut why f g = absurd f
same-cause (a ∷ []) line (format.refused x) why f g = absurd f
same-cause (a ∷ b ∷ lines) line format.shape format.shape f g = refl
same-cause (a ∷ b ∷ lines) line format.shape format.header f g = absurd g
same-cause (a ∷ b ∷ lines) line format.shape format.replicas f g = absurd g
same-cause (a ∷ b ∷ lines) line format.shape format.cut f g = absurd g
same-cause (a ∷ b ∷ lines) line format.shape (format.refused y) f (v, h, legal, is, e, k, spelled, refused) =
    let first : a ≡ header_line v = cc in absurd (f v e first k spelled)
same-cause (a ∷ b ∷ lines) line (format.refused x) format.shape (v, h, legal, is, e, k, spelled, refused) g =
    let first : a ≡ header_line v = cc in absurd (g v e first k spelled)
same-cause (a ∷ b ∷ lines) line (format.refused x) (format.refused y)
    (v, g, legal, is, d, k, spelled, refused) (w, h, well, so, e, l, again, other) =
    ap format.refused
    (same-refusal (a ∷ b ∷ lines) line x y v w g h legal well is so d e k l spelled again refused other)
same-cause (a ∷ b ∷ lines) line (format.refused x) format.header f g = absurd g
same-cause (a ∷ b ∷ lines) line (format.refused x) format.replicas f g = absurd g
same-cause (a ∷ b ∷ lines) line (format.refused x) format.cut f g = absurd g
same-cause (a ∷ b ∷ lines) line format.header why f g = absurd f
same-cause (a ∷ b ∷ lines) line format.replicas why f g = absurd f
same-cause (a ∷ b ∷ lines) line format.cut why f g = absurd f

never-missing : (a b : Line) (lines : List Line) (cause : format.Cause) → IsMissingLine (a ∷ b ∷ lines) cause
    → ⊥
never-missing a b lines format.header f = f
never-missing a b lines format.replicas f = f
never-missing a b lines format.shape f = f
never-missing a b lines format.cut f = f
never-missing a b lines (format.refused x) f = f

same-missing : (good : List Line) (cause why : format.Cause) → IsMissingLine good cause
    → IsMissingLine good why → cause ≡ why
same-missing [] format.header format.header f g = refl
same-missing [] format.header format.replicas f g = absurd g
same-missing [] format.header format.shape f g = absurd g
same-missing [] format.header format.cut f g = absurd g
same-missing [] format.header (format.refused y) f g = absurd g
same-missing [] format.replicas why f g = absurd f
same-missing [] format.shape why f g = absurd f
same-missing [] format.cut why f g = absurd f
same-missing [] (format.refused x) why f g = absurd f
same-missing (a ∷ []) format.replicas format.replicas f g = refl
same-missing (a ∷ []) format.replicas format.header f g = absurd g
same-missing (a ∷ []) format.replicas format.shape f g = absurd g
same-missing (a ∷ []) format.replicas format.cut f g = absurd g
same-missing (a ∷ []) format.replicas (format.refused y) f g = absurd g
same-missing (a ∷ []) format.header why f g = absurd f
same-missing (a ∷ []) format.shape why f g = absurd f
same-missing (a ∷ []) format.cut why f g = absurd f
same-missing (a ∷ []) (format.refused x) why f g = absurd f
same-missing (a ∷ b ∷ lines) cause why f g = absurd (never-missing a b lines cause f)

pub one-fault : (text : List ℕ) (line other : ℕ) (cause why : format.Cause) → IsFirstLineFault text line cause
    → IsFirstLineFault text other why → (line ≡ other) × (cause ≡ why)
one-fault text line other cause why f g =
    shared.one-fault BeginsSpelling IsFaultyLine IsMissingLine format.cut never-faulty same-cause same-missing
    text line other cause why
    (shows-fault text line cause f) (shows-fault text other why g)
