-- A text that grows by pieces.
use Rattle.std.proofs.Common.{◌≡◌, ℕ, ◌+◌, ◌≤◌, List, [], ◌∷◌, ◌++◌, length, Option, Some, None, IfSome}
use Rattle.std.proofs.Common.{Result, Ok, Err, OnOk, refl, sym, ap, ◌∙◌, subst, arith, inl, inr, append_assoc}
use Rattle.std.proofs.Common.{length-append}
use Rattle.std.proofs.lemmas.List.{append-nil}
use Rattle.std.proofs.lemmas.Option.{same_Some, IfSome_then}
use Rattle.std.proofs.lemmas.List.Elements.{Contains-append_cases}
use Rattle.specification.specs.Lines.{Line, text_of, IsOneLine}
use Rattle.specification.specs.TraceText.{BeginsSpelling, IsFaultyLine, IsCutAt}
use Rattle.format_words.proofs.CutText.{line-on}
use Rattle.format_words.proofs.Places.{IsThere, takes-at}
use Rattle.trace_text.specs.Causes.{cause_of}
use Rattle.trace_text.specs.Fed.{EndsIn, HoldsFault, IsAdded, IsOpenAt, IsClosed, ShowsWhole}
use Rattle.trace_text.specs.Kept.{EMPTY, Kept, StandsFor}
use Rattle.trace_text.specs.declared.cause.LineFault.{LineFault}
use Rattle.trace_text.proofs.Faults.{faulty-there, cut-fault}
use Rattle.trace_text.proofs.KeptLines.{empty-kept, stands-right}

one-line-both : (front back : Line) → IsOneLine front → IsOneLine back → IsOneLine (front ++ back)
one-line-both front back h k has =
    elim (Contains-append_cases front back 10 has) [ inl x ↦ h x | inr y ↦ k y ]

pub no-byte : IsOneLine []
no-byte (k, low, is) = absurd (omega arith)

text-on : (lines : List Line) (front text piece : List ℕ) → text ≡ text_of lines ++ front
    → text ++ piece ≡ text_of lines ++ (front ++ piece)
text-on lines front text piece is = ap (λ t. t ++ piece) is ∙ append_assoc (text_of lines) front piece

-- bytes without an LF lengthen the line begun
pub ends-on : (lines : List Line) (old new : Option Kept) (text piece : List ℕ) → EndsIn lines old text
    → IsOneLine piece → IsAdded old piece new → EndsIn lines new (text ++ piece)
ends-on lines (Some old) (Some new) text piece ends one added = (
  ends.0 ++ piece,
  added ends.0 ends.1,
  one-line-both ends.0 piece ends.2 one,
  text-on lines ends.0 text piece ends.3,
)
ends-on lines (Some old) None text piece ends one some = (
  ends.0 ++ piece,
  omega (arith, some, length-append ends.0 piece),
  one-line-both ends.0 piece ends.2 one,
  text-on lines ends.0 text piece ends.3,
)
ends-on lines None (Some new) text piece ends one added = absurd added
ends-on lines None None text piece ends one added = (
  ends.0 ++ piece,
  omega (arith, ends.1, length-append ends.0 piece),
  one-line-both ends.0 piece ends.2 one,
  text-on lines ends.0 text piece ends.3,
)

-- a line begins behind right lines
pub ends-anew : (lines : List Line) (new : Option Kept) (text rest : List ℕ) → IsOneLine rest
    → IsAdded (Some EMPTY) rest new → text ≡ text_of lines ++ rest → EndsIn lines new text
ends-anew lines new text rest one added is =
    subst (EndsIn lines new) (sym is) (ends-on lines (Some EMPTY) new (text_of lines) rest (
      [],
      empty-kept,
      no-byte,
      sym (append-nil (text_of lines)),
    ) one added)

line-behind : (lines : List Line) (begun text back behind : List ℕ) → text ≡ text_of lines ++ begun
    → text ++ (back ++ 10 ∷ behind) ≡ text_of lines ++ ((begun ++ back) ++ 10 ∷ behind)
line-behind lines begun text back behind is = text-on lines begun text (back ++ 10 ∷ behind) is
    ∙ ap (λ l. text_of lines ++ l) (sym (append_assoc begun back (10 ∷ behind)))

-- the line begun ends, and what is kept of it stands for it
pub line-ended : (lines : List Line) (old added closed : Option Kept) (kept text back behind : List ℕ)
    → EndsIn lines old text → IsOneLine back → IsAdded old back added → IsClosed added closed
    → ShowsWhole closed kept
    → (line : Line) × StandsFor kept line × IsOneLine line
    × (text ++ (back ++ 10 ∷ behind) ≡ text_of lines ++ (line ++ 10 ∷ behind))
line-ended lines (Some old) (Some new) (Some closed) kept text back behind ends one added close shows = (
  ends.0 ++ back,
  subst (λ (l : Line). StandsFor l (ends.0 ++ back)) (sym close ∙ shows) (added ends.0 ends.1).stands,
  one-line-both ends.0 back ends.2 one,
  line-behind lines ends.0 text back behind ends.3,
)
line-ended lines (Some old) (Some new) None kept text back behind ends one added close shows = absurd shows
line-ended lines (Some old) None (Some closed) kept text back behind ends one added close shows = absurd close
line-ended lines (Some old) None None kept text back behind ends one added close shows = absurd shows
line-ended lines None (Some new) closed kept text back behind ends one added close shows = absurd added
line-ended lines None None (Some closed) kept text back behind ends one added close shows = absurd close
line-ended lines None None None kept text back behind ends one added close shows = absurd shows

-- where what is kept was right, it is the line
pub right-ended : (lines after : List Line) (old added closed : Option Kept) (kept text back : List ℕ)
    → EndsIn lines old text → IsOneLine back → IsAdded old back added → IsClosed added closed
    → ShowsWhole closed kept
    → after ≡ lines ++ kept ∷ [] → BeginsSpelling after → text ++ (back ++ 10 ∷ []) ≡ text_of after
right-ended lines after old added closed kept text back ends one is_added close shows taken begins =
    let ended = line-ended lines old added closed kept text back [] ends one is_added close shows in
    let same : kept ≡ ended.0 = stands-right kept ended.0 lines ended.1 (subst BeginsSpelling taken begins) in
    ended.3
    ∙ ap (λ l. text_of lines ++ (l ++ 10 ∷ [])) (sym same)
    ∙ line-on lines kept []
    ∙ append-nil (text_of (lines ++ kept ∷ []))
    ∙ ap text_of (sym taken)

-- a line that was lost ends
pub lost-ended : (lines : List Line) (old : Option Kept) (text back behind : List ℕ) → EndsIn lines old text
    → IsOneLine back
    → (line : List ℕ) × IsOneLine line
    × (text ++ (back ++ 10 ∷ behind) ≡ text_of lines ++ (line ++ 10 ∷ behind))
lost-ended lines (Some old) text back behind ends one =
    (ends.0 ++ back, one-line-both ends.0 back ends.2 one, line-behind lines ends.0 text back behind ends.3)
lost-ended lines None text back behind ends one =
    (ends.0 ++ back, one-line-both ends.0 back ends.2 one, line-behind lines ends.0 text back behind ends.3)

-- the fault of a line that is there
pub holds : (text : List ℕ) (fault : LineFault) (lines : List Line) (line : Line)
    → IsThere BeginsSpelling text fault.line lines line
    → IfSome (cause_of fault.cause) (IsFaultyLine lines line) → HoldsFault text fault
holds text fault lines line at faulty = record {
  there = takes-at BeginsSpelling (λ lines next. Unit {0}) text fault.line lines line at tt;
  faulty = IfSome_then (cause_of fault.cause) faulty
      (λ cause f. faulty-there text fault.line lines line cause at f);
}

some-kept : (whole word : List ℕ) → (Some (record { whole = whole; word = word }) ≡ Some EMPTY → ⊥)
    → 1 ≤ length (whole ++ word)
some-kept [] [] some = absurd (some refl)
some-kept [] (b ∷ word) some = omega arith
some-kept (b ∷ whole) word some = omega arith

-- where a line is begun, the text is cut at it
pub cut-there : (lines : List Line) (begun : Option Kept) (text : List ℕ) (number : ℕ) → BeginsSpelling lines
    → EndsIn lines begun text → (begun ≡ Some EMPTY → ⊥) → number ≡ length lines + 1 → IsCutAt text number
cut-there lines (Some kept) text number begins ends some is =
    cut-fault text number lines ends.0 begins (ends.1.stands.some (some-kept kept.whole kept.word some))
    ends.2 ends.3 is
cut-there lines None text number begins ends some is =
    cut-fault text number lines ends.0 begins ends.1 ends.2 ends.3 is

-- the text behind a line's end
pub behind-end : (text back behind before piece : List ℕ) → text ++ (back ++ 10 ∷ []) ≡ before
    → piece ≡ back ++ 10 ∷ behind → text ++ piece ≡ before ++ behind
behind-end text back behind before piece is cut =
    ap (λ p. text ++ p) (cut ∙ sym (append_assoc back (10 ∷ []) behind))
    ∙ sym (append_assoc text (back ++ 10 ∷ []) behind)
    ∙ ap (λ t. t ++ behind) is

no-bytes : (line : List ℕ) → (1 ≤ length line → 1 ≤ 0) → line ≡ []
no-bytes [] h = refl
no-bytes (b ∷ line) h = let wrong : 1 ≤ 0 = h (omega arith) in absurd (omega (arith, wrong))

-- a text that ends with its right lines
pub ends-at : (lines : List Line) (begun : Option Kept) (text : List ℕ) → EndsIn lines begun text
    → begun ≡ Some EMPTY → text ≡ text_of lines
ends-at lines (Some kept) text ends is =
    let same : kept ≡ EMPTY = same_Some kept EMPTY is in
    ends.3 ∙ ap (λ l. text_of lines ++ l)
    (no-bytes ends.0 (λ some. subst (λ (k : Kept). 1 ≤ length (k.whole ++ k.word)) same
    (ends.1.stands.none some))) ∙ append-nil (text_of lines)
ends-at lines None text ends is = absurd (cc)

-- a piece behind right lines alone
pub piece-read : {A E : Type 0} (r : Result A E) (lines after : List Line) (old new : Option Kept)
    (piece : List ℕ) → old ≡ Some EMPTY → OnOk r (EndsIn after new (text_of lines ++ piece))
    → OnOk r (BeginsSpelling lines → BeginsSpelling after)
    → OnOk r ((text : List ℕ) → IsOpenAt lines old text → IsOpenAt after new (text ++ piece))
piece-read (Ok x) lines after old new piece none ends right =
    λ text open_at. (
      right open_at.0,
      subst (λ t. EndsIn after new (t ++ piece)) (sym (ends-at lines old text open_at.1 none)) ends,
    )
piece-read (Err x) lines after old new piece none ends right = tt
