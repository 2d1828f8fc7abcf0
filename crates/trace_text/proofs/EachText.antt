-- Each text spells a recording or has a fault.
use Rattle.std.proofs.Common.{◌≡◌, ◌≢◌, ℕ, ◌+◌, ◌≤◌, List, [], ◌∷◌, ◌++◌, length, refl}
use Rattle.std.proofs.Common.{sym, ap, arith, Option, Some, None, ◌⊎◌, inl, inr}
use Rattle.std.proofs.lemmas.Bool.{cases_lt}
use Rattle.events.specs.History.{History, with_entry}
use Rattle.events.specs.Session.{first_refusal}
use Rattle.events.specs.declared.TheConstants.{MOST_REPLICAS}
use Rattle.events.specs.declared.entry.Entry.{Entry}
use Rattle.events.specs.declared.refusal.Refusal.{Refusal}
use Rattle.specification.specs.Lines.{Line, text_of, IsOneLine}
use Rattle.specification.specs.TraceText as format
use Rattle.specification.specs.TraceText.{header_line, entry_line, replicas_line, trace_lines, Spells}
use Rattle.specification.specs.TraceText.{IsEntry, IsSpelledIn, IsFaultyLine, BeginsSpelling}
use Rattle.specification.specs.TraceText.{IsFirstLineFault}
use Rattle.specification.specs.Versions.{Version, one, two}
use Rattle.format_words.proofs.ByLines.{by-lines, version-of}
use Rattle.format_words.proofs.Places.{is-there}
use Rattle.format_words.specs.Words.{words_of}
use Rattle.trace_text.specs.Reading.{entry_at, replicas_at}
use Rattle.trace_text.specs.Progress.{good, IsLegalSoFar}
use Rattle.trace_text.specs.Versions.{has_views, version_in}
use Rattle.trace_text.specs.declared.reading.Reading.{Reading}
use Rattle.trace_text.specs.declared.reading.Reading.TheVariants.{Start, Headed, Entries}
use Rattle.trace_text.specs.declared.version.Version.TheVariants as version
use Rattle.trace_text.proofs.Spelled.{line-spells}
use Rattle.trace_text.proofs.SecondLine.{replicas-spells, replicas-none, replicas-same}
use Rattle.trace_text.proofs.FaultyLines.{one-line-more, empty-spelled, spelled-more, nothing-begins}
use Rattle.trace_text.proofs.FaultyLines.{header-begins, so-far-begins, shape-of}
use Rattle.trace_text.proofs.Faults.{faulty-there, whole-is-first, cut-fault}

abbrev HasFault : List ℕ → Type 0
HasFault text = (line : ℕ) × (cause : format.Cause) × IsFirstLineFault text line cause

abbrev IsSpelled : List ℕ → Type 0
IsSpelled text = (h : History) × Spells text h

-- one line more is faulty, or right
abbrev GoesOn : Reading → Line → Type 0
GoesOn r l =
    ((cause : format.Cause) × IsFaultyLine (good r) l cause)
    ⊎ ((t : Reading) × IsLegalSoFar t × (good t ≡ good r ++ l ∷ []))

headed-step : (version : Version) (l : Line) → l ≡ header_line version → GoesOn Start l
headed-step one l is = inr (Headed version.One, tt, ap (λ (first : Line). first ∷ []) (sym is))
headed-step two l is = inr (Headed version.Two, tt, ap (λ (first : Line). first ∷ []) (sym is))

-- the second line begins a recording, or is faulty
second-step : (l : Line) → ((n : ℕ) → 1 ≤ n → n ≤ MOST_REPLICAS → l ≢ replicas_line n)
    ⊎ ((n : ℕ) × (1 ≤ n) × (n ≤ MOST_REPLICAS) × (l ≡ replicas_line n))
second-step l = by-number (replicas_at (words_of l)) refl
  where
    by-number : (o : Option ℕ) → replicas_at (words_of l) ≡ o
        → ((n : ℕ) → 1 ≤ n → n ≤ MOST_REPLICAS → l ≢ replicas_line n)
        ⊎ ((n : ℕ) × (1 ≤ n) × (n ≤ MOST_REPLICAS) × (l ≡ replicas_line n))
    by-number None e = inl (λ n low high is. replicas-none l n e (omega arith) is)
    by-number (Some m) e = elim (cases_lt m 1) [
      | inl none ↦
          inl (λ n low high is. let same : m ≡ n = replicas-same l m n e (omega arith) is in
          absurd (omega arith))
      | inr some ↦ elim (cases_lt MOST_REPLICAS m) [
        | inl many ↦
            inl (λ n low high is. let same : m ≡ n = replicas-same l m n e (omega arith) is in
            absurd (omega arith))
        | inr fits ↦ inr (m, some, fits, replicas-spells l m e)
      ]
    ]

entry-step : (version : Version) (h : History) (l : Line) → IsSpelledIn version h
    → GoesOn (Entries (version, h)) l
entry-step version h l spelled = by-entry (entry_at (has_views version) (words_of l)) refl
  where
    by-refusal : (e : Entry) → IsEntry version e → l ≡ entry_line e → (o : Option Refusal)
        → first_refusal h.replicas h.entries e ≡ o → GoesOn (Entries (version, h)) l
    by-refusal e k read None f =
        inr (
          Entries (version, with_entry h e),
          spelled-more version h e spelled k f,
          one-line-more version h e l read,
        )
    by-refusal e k read (Some why) f = inl (format.refused why, (version, h, spelled, refl, e, k, read, f))

    by-entry : (o : Option Entry) → entry_at (has_views version) (words_of l) ≡ o
        → GoesOn (Entries (version, h)) l
    by-entry None e = inl (format.shape, shape-of version l e)
    by-entry (Some e) is_read = let p = line-spells version l e is_read in
        by-refusal e p.0 p.1 (first_refusal h.replicas h.entries e) refl

step : (r : Reading) (l : Line) → IsLegalSoFar r → GoesOn r l
step Start l legal = elim (version-of header_line l) [
  | inl wrong ↦ inl (format.header, wrong)
  | inr p ↦ headed-step p.0 l p.1
]
step (Headed version) l legal = elim (second-step l) [
  | inl wrong ↦ inl (format.replicas, wrong)
  | inr p ↦
      inr (
        Entries (version_in version, record { replicas = p.0; entries = [] }),
        empty-spelled (version_in version) p.0 p.1 p.2,
        ap (λ (second : Line). header_line (version_in version) ∷ second ∷ []) (sym p.3),
      )
]
step (Entries recording) l legal = entry-step recording.0 recording.1 l legal

at-line : (text : List ℕ) (r : Reading) (l : Line) (behind : List ℕ) → IsLegalSoFar r → IsOneLine l
    → text ≡ text_of (good r) ++ (l ++ 10 ∷ behind)
    → HasFault text ⊎ ((t : Reading) × IsLegalSoFar t × (good t ≡ good r ++ l ∷ []))
at-line text r l behind legal no_lf is = elim (step r l legal) [
  | inl wrong ↦ (let number = length (good r) + 1 in
      inl (
        number,
        wrong.0,
        whole-is-first text number wrong.0 (faulty-there text number (good r) l wrong.0
            (is-there BeginsSpelling text number (good r) l (l ++ 10 ∷ behind) behind is refl no_lf refl
            (so-far-begins r legal))
            wrong.1),
      ))
  | inr t ↦ inr t
]

at-cut : (text : List ℕ) (r : Reading) (rest : Line) → IsLegalSoFar r → 1 ≤ length rest → IsOneLine rest
    → text ≡ text_of (good r) ++ rest → HasFault text
at-cut text r rest legal some no_lf is = (
  length (good r) + 1,
  format.cut,
  cut-fault text (length (good r) + 1) (good r) rest (so-far-begins r legal) some no_lf is refl,
)

-- where nothing follows, line 1 or line 2 is missing, or a recording is spelled
at-end : (text : List ℕ) (r : Reading) → IsLegalSoFar r → text ≡ text_of (good r)
    → IsSpelled text ⊎ HasFault text
at-end text Start legal is =
    inr (
      1,
      format.header,
      inr (record { good = []; begins = nothing-begins; text_is = is; number = refl; missing = tt }),
    )
at-end text (Headed version) legal is =
    inr (
      2,
      format.replicas,
      inr (record {
        good = good (Headed version);
        begins = header-begins (version_in version);
        text_is = is;
        number = refl;
        missing = tt;
      }),
    )
at-end text (Entries recording) legal is = inl (recording.1, (recording.0, legal, is))

pub each-text : (text : List ℕ) → IsSpelled text ⊎ HasFault text
each-text text =
    by-lines good IsLegalSoFar text (IsSpelled text) (HasFault text) (at-line text) (at-cut text)
    (at-end text) Start tt refl
