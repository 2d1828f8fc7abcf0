-- A text that spells a recording spells no other, and has no fault.
use Rattle.std.proofs.Common.{◌≡◌, ℕ, ◌<◌, ◌^◌, List, [], ◌∷◌, ◌++◌, map, refl, sym, ap, ◌∙◌, subst}
use Rattle.std.proofs.Common.{arith, Some, inl, inr}
use Rattle.std.specs.List.{All}
use Rattle.std.proofs.lemmas.Option.{none-some}
use Rattle.events.specs.History.{History, IsLegal}
use Rattle.events.specs.Session.{first_refusal}
use Rattle.events.specs.declared.refusal.Refusal.{Refusal}
use Rattle.events.specs.declared.entry.Entry.{Entry}
use Rattle.specification.specs.Lines.{Line}
use Rattle.specification.specs.TraceText as format
use Rattle.specification.specs.TraceText.{header_line, entry_line, replicas_line, trace_lines, Spells}
use Rattle.specification.specs.TraceText.{IsEntry, IsSpelledIn, IsFaultyLine, IsMissingLine, BeginsSpelling}
use Rattle.specification.specs.TraceText.{HasWholeFault, IsCutAt, LacksLine, IsFirstLineFault}
use Rattle.specification.specs.Versions.{Version}
use Rattle.format_words.proofs.LineLists.{line-there, all-of, same-all}
use Rattle.format_words.proofs.TextLines.{same-lines, never-cut, line-stands}
use Rattle.trace_text.proofs.TextLines.{lines-lack, beginning-lacks, legal-entries}
use Rattle.trace_text.proofs.Spelled.{one-spelling}
use Rattle.trace_text.proofs.SecondLine.{replicas-line-again, replicas-same}
use Rattle.trace_text.proofs.Accepted.{accepted}

same-replicas : (m n : ℕ) → m < 2 ^ 32 → n < 2 ^ 32 → replicas_line m ≡ replicas_line n → m ≡ n
same-replicas m n small few is =
    replicas-same (replicas_line m) m n (replicas-line-again (replicas_line m) m small refl) few is

same-entries : (v w : Version) (ds es : List Entry) → All (IsEntry v) ds → All (IsEntry w) es
    → map entry_line ds ≡ map entry_line es → ds ≡ es
same-entries v w = same-all entry_line (IsEntry v) (IsEntry w) (one-spelling v w)

few : (h : History) → IsLegal h → h.replicas < 2 ^ 32
few h legal = omega (arith, legal.few_replicas)

pub same-history : (v w : Version) (g h : History) → IsSpelledIn v g → IsSpelledIn w h
    → trace_lines v g ≡ trace_lines w h → g ≡ h
same-history v w g h spelled good is =
    let second : replicas_line g.replicas ≡ replicas_line h.replicas = cc in
    let others : map entry_line g.entries ≡ map entry_line h.entries = cc in
    let replicas = same-replicas g.replicas h.replicas (few g spelled.0) (few h good.0) second in
    let entries =
    same-entries v w g.entries h.entries (legal-entries v g spelled) (legal-entries w h good) others in
    λ i. record { replicas = replicas i; entries = entries i }

-- a text spells at most one recording
pub one-recording : (text : List ℕ) (g h : History) → Spells text g → Spells text h → g ≡ h
one-recording text g h (v, spelled, is) (w, good, other) =
    same-history v w g h spelled good (same-lines text (trace_lines v g) (trace_lines w h)
    (lines-lack v g spelled) (lines-lack w h good) is other)

-- no line of a legal recording's entries is refused
not-refused : (v w : Version) (h g : History) (earlier later : List Entry) (e d : Entry) (why : Refusal)
    → IsSpelledIn v h → IsSpelledIn w g → h.entries ≡ earlier ++ e ∷ later →
    replicas_line g.replicas ≡ replicas_line h.replicas → map entry_line g.entries ≡ map entry_line earlier
    → IsEntry w d → entry_line e ≡ entry_line d → first_refusal g.replicas g.entries d ≡ Some why → ⊥
not-refused v w h g earlier later e d why spelled good is second others k line refused =
    let known = all-of (IsEntry v) earlier later e (subst (All (IsEntry v)) is (legal-entries v h spelled)) in
    let replicas : g.replicas ≡ h.replicas =
    same-replicas g.replicas h.replicas (few g good.0) (few h spelled.0) second in
    let entries : g.entries ≡ earlier =
    same-entries w v g.entries earlier (legal-entries w g good) known.0 others in
    let same : e ≡ d = one-spelling v w e d known.1 k line in
    let refusal : first_refusal h.replicas earlier e ≡ Some why =
    ap (λ n. first_refusal n earlier e) (sym replicas)
    ∙ ap (λ (es : List Entry). first_refusal g.replicas es e) (sym entries)
    ∙ ap (first_refusal g.replicas g.entries) same ∙ refused in
    none-some why (sym (accepted h earlier later e spelled.0 is) ∙ refusal)

pub line-right : (version : Version) (h : History) (good : List Line) (line : Line) (rest : List Line)
    (cause : format.Cause) → IsSpelledIn version h → trace_lines version h ≡ good ++ line ∷ rest
    → IsFaultyLine good line cause → ⊥
line-right version h [] line rest format.header spelled is faulty = let same : line ≡ header_line version =
    cc in faulty version same
line-right version h [] line rest format.replicas spelled is faulty = faulty
line-right version h [] line rest format.shape spelled is faulty = faulty
line-right version h [] line rest format.cut spelled is faulty = faulty
line-right version h [] line rest (format.refused why) spelled is faulty = faulty
line-right version h (a ∷ []) line rest format.header spelled is faulty = faulty
line-right version h (a ∷ []) line rest format.replicas spelled is faulty =
    let same : line ≡ replicas_line h.replicas =
    cc in faulty h.replicas spelled.0.some_replica spelled.0.few_replicas same
line-right version h (a ∷ []) line rest format.shape spelled is faulty = faulty
line-right version h (a ∷ []) line rest format.cut spelled is faulty = faulty
line-right version h (a ∷ []) line rest (format.refused why) spelled is faulty = faulty
line-right version h (a ∷ b ∷ good) line rest format.header spelled is faulty = faulty
line-right version h (a ∷ b ∷ good) line rest format.replicas spelled is faulty = faulty
line-right version h (a ∷ b ∷ good) line rest format.shape spelled is faulty =
    let first : a ≡ header_line version = cc in
    let others : map entry_line h.entries ≡ good ++ line ∷ rest = cc in
    let p = line-there entry_line h.entries good rest line others in
    faulty version p.2 first (all-of (IsEntry version) p.0 p.1 p.2
    (subst (All (IsEntry version)) p.3 (legal-entries version h spelled))).1 p.5
line-right version h (a ∷ b ∷ good) line rest format.cut spelled is faulty = faulty
line-right version h (a ∷ b ∷ good) line rest (format.refused why) spelled is
    (w, g, well, lines, d, k, read, refused) =
    let second : replicas_line h.replicas ≡ b = cc in
    let others : map entry_line h.entries ≡ good ++ line ∷ rest = cc in
    let p = line-there entry_line h.entries good rest line others in
    let own : replicas_line g.replicas ≡ b = cc in
    let entries : map entry_line g.entries ≡ good = cc in
    not-refused version w h g p.0 p.1 p.2 d why spelled well p.3 (own ∙ sym second) (entries ∙ p.4) k
    (sym p.5 ∙ read) refused

no-whole-fault : (h : History) (text : List ℕ) (line : ℕ) (cause : format.Cause) → Spells text h
    → HasWholeFault text line cause → ⊥
no-whole-fault h text line cause (version, spelled, is) fault =
    let stands =
    line-stands text (trace_lines version h) fault.good fault.faulty fault.more
    (lines-lack version h spelled) (beginning-lacks fault.good fault.begins) fault.one_line is
    fault.text_is in
    line-right version h fault.good fault.faulty stands.0 cause spelled stands.1 fault.is_faulty

not-cut : (h : History) (text : List ℕ) (line : ℕ) → Spells text h → IsCutAt text line → ⊥
not-cut h text line (version, spelled, is) cut =
    never-cut text (trace_lines version h) cut.good cut.rest (lines-lack version h spelled)
    (beginning-lacks cut.good cut.begins) cut.one_line cut.some_byte is cut.text_is

none-missing : (version : Version) (h : History) (good : List Line) (cause : format.Cause)
    → trace_lines version h ≡ good → IsMissingLine good cause → ⊥
none-missing version h [] cause is missing = cc
none-missing version h (a ∷ []) cause is missing = cc
none-missing version h (a ∷ b ∷ good) format.header is missing = missing
none-missing version h (a ∷ b ∷ good) format.replicas is missing = missing
none-missing version h (a ∷ b ∷ good) format.shape is missing = missing
none-missing version h (a ∷ b ∷ good) format.cut is missing = missing
none-missing version h (a ∷ b ∷ good) (format.refused why) is missing = missing

lacks-none : (h : History) (text : List ℕ) (line : ℕ) (cause : format.Cause) → Spells text h
    → LacksLine text line cause → ⊥
lacks-none h text line cause (version, spelled, is) lacks =
    none-missing version h lacks.good cause (same-lines text (trace_lines version h) lacks.good
    (lines-lack version h spelled) (beginning-lacks lacks.good lacks.begins) is lacks.text_is) lacks.missing

-- a text that spells a recording has no fault
pub no-fault : (h : History) (text : List ℕ) (line : ℕ) (cause : format.Cause) → Spells text h
    → IsFirstLineFault text line cause → ⊥
no-fault h text line format.header s (inl whole) = no-whole-fault h text line format.header s whole
no-fault h text line format.header s (inr lacks) = lacks-none h text line format.header s lacks
no-fault h text line format.replicas s (inl whole) = no-whole-fault h text line format.replicas s whole
no-fault h text line format.replicas s (inr lacks) = lacks-none h text line format.replicas s lacks
no-fault h text line format.shape s whole = no-whole-fault h text line format.shape s whole
no-fault h text line format.cut s cut = not-cut h text line s cut
no-fault h text line (format.refused why) s whole = no-whole-fault h text line (format.refused why) s whole
