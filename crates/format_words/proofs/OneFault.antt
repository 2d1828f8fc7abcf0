-- A text has at most one first fault, in a format that says which lines are the first ones of a spelling, why
-- a line after such lines is wrong, and why one is missing.
use Rattle.std.proofs.Common.{◌≡◌, ℕ, ◌+◌, ◌<◌, ◌≤◌, List, [], ◌∷◌, ◌++◌, length, refl, sym, ap, ◌∙◌, subst}
use Rattle.std.proofs.Common.{arith, inl, inr, length-append}
use Rattle.std.specs.List.{All}
use Rattle.std.proofs.lemmas.Bool.{cases_lt}
use Rattle.specification.specs.Lines.{Line, text_of, IsOneLine}
use Rattle.format_words.proofs.TwoCuts.{inner, same-cut}
use Rattle.format_words.proofs.TextLines.{lines_of, LacksLf, lines-with, lines-cut, lines-whole, some-line}

-- a fault as it shows in the text's lines: right ones, the one that is named, and those after it; the last is
-- what no LF ends
pub record Shows (Begins : List Line → Type 0) (text : List ℕ) (number : ℕ) : Type 0 where
  pub good : List Line
  pub begins : Begins good
  pub line : Line
  pub behind : List Line
  pub lines : lines_of text ≡ good ++ line ∷ behind
  pub is_number : number ≡ length good + 1

-- why that line is named: it is wrong, it has no LF, or it is not there
pub data Why {Cause : Type 0} (Wrong : List Line → Line → Cause → Type 0)
    (Missing : List Line → Cause → Type 0) (cut : Cause) (good : List Line) (line : Line)
    (behind : List Line) : Cause → Type 0 where
  wrong : {cause : Cause} → Wrong good line cause → 1 ≤ length behind
      → Why Wrong Missing cut good line behind cause
  unended : behind ≡ [] → 1 ≤ length line → Why Wrong Missing cut good line behind cut
  lacking : {cause : Cause} → behind ≡ [] → line ≡ [] → Missing good cause
      → Why Wrong Missing cut good line behind cause

-- behind the last line there is none
nothing-longer : (good : List Line) (line : Line) (behind longer : List Line) (other : Line)
    (rest : List Line) → behind ≡ [] → good ++ line ∷ behind ≡ longer ++ other ∷ rest
    → length good < length longer → ⊥
nothing-longer good line behind longer other rest none is shorter =
    absurd (omega (
      arith,
      ap length is,
      ap length none,
      length-append good (line ∷ behind),
      length-append longer (other ∷ rest),
    ))

module _ {Cause : Type 0} (Begins : List Line → Type 0) (Wrong : List Line → Line → Cause → Type 0)
    (Missing : List Line → Cause → Type 0) (cut : Cause) where
  abbrev pub Fault : List ℕ → ℕ → Cause → Type 0
  Fault text number cause =
      (shows : Shows Begins text number) × Why Wrong Missing cut shows.good shows.line shows.behind cause

  pub shows-wrong : (text : List ℕ) (number : ℕ) (cause : Cause) (good : List Line) → Begins good
      → All LacksLf good → (faulty : Line) → IsOneLine faulty → (more : List ℕ) →
      text ≡ text_of good ++ faulty ++ 10 ∷ more → number ≡ length good + 1 → Wrong good faulty cause
      → Fault text number cause
  shows-wrong text number cause good begins lack faulty one more text_is is why = (
    record {
      good = good;
      begins = begins;
      line = faulty;
      behind = lines_of more;
      lines = lines-with text good faulty more lack one text_is;
      is_number = is;
    },
    wrong why (some-line more),
  )

  pub shows-cut : (text : List ℕ) (number : ℕ) (good : List Line) → Begins good → All LacksLf good
      → (rest : Line) → 1 ≤ length rest → IsOneLine rest →
      text ≡ text_of good ++ rest → number ≡ length good + 1 → Fault text number cut
  shows-cut text number good begins lack rest some one text_is is = (
    record {
      good = good;
      begins = begins;
      line = rest;
      behind = [];
      lines = lines-cut text good rest lack one text_is;
      is_number = is;
    },
    unended refl some,
  )

  pub shows-lack : (text : List ℕ) (number : ℕ) (cause : Cause) (good : List Line) → Begins good
      → All LacksLf good →
      text ≡ text_of good → number ≡ length good + 1 → Missing good cause → Fault text number cause
  shows-lack text number cause good begins lack text_is is why = (
    record {
      good = good;
      begins = begins;
      line = [];
      behind = [];
      lines = lines-whole text good lack text_is;
      is_number = is;
    },
    lacking refl refl why,
  )

  -- no fault stands before lines that are right
  not-before : ((good : List Line) (line : Line) (between : List Line) (cause : Cause)
      → Begins (good ++ line ∷ between) → Wrong good line cause → ⊥) →
      (good : List Line) (line : Line) (behind longer : List Line) (other : Line) (rest : List Line)
      (cause : Cause) → Why Wrong Missing cut good line behind cause → Begins longer →
      good ++ line ∷ behind ≡ longer ++ other ∷ rest → length good < length longer → ⊥
  not-before right good line behind longer other rest cause (wrong faulty some) begins is shorter =
      let p = inner good longer line other behind rest is shorter in
      right good line p.0 cause (subst Begins p.1 begins) faulty
  not-before right good line behind longer other rest cause (unended none some) begins is shorter =
      nothing-longer good line behind longer other rest none is shorter
  not-before right good line behind longer other rest cause (lacking none empty missing) begins is shorter =
      nothing-longer good line behind longer other rest none is shorter

  same-why : ((good : List Line) (line : Line) (cause why : Cause) → Wrong good line cause
      → Wrong good line why → cause ≡ why) →
      ((good : List Line) (cause why : Cause) → Missing good cause → Missing good why → cause ≡ why) →
      (good : List Line) (line : Line) (behind : List Line) (cause why : Cause)
      → Why Wrong Missing cut good line behind cause → Why Wrong Missing cut good line behind why
      → cause ≡ why
  same-why same none-else good line behind cause why (wrong f some) (wrong g more) =
      same good line cause why f g
  same-why same none-else good line behind cause why (wrong f some) (unended none more) =
      absurd (omega (arith, ap length none))
  same-why same none-else good line behind cause why (wrong f some) (lacking none empty missing) =
      absurd (omega (arith, ap length none))
  same-why same none-else good line behind cause why (unended none some) (wrong g more) =
      absurd (omega (arith, ap length none))
  same-why same none-else good line behind cause why (unended none some) (unended last more) = refl
  same-why same none-else good line behind cause why (unended none some) (lacking last empty missing) =
      absurd (omega (arith, ap length empty))
  same-why same none-else good line behind cause why (lacking none empty missing) (wrong g more) =
      absurd (omega (arith, ap length none))
  same-why same none-else good line behind cause why (lacking none empty missing) (unended last more) =
      absurd (omega (arith, ap length empty))
  same-why same none-else good line behind cause why (lacking none empty missing)
      (lacking last nothing lacks) = none-else good cause why missing lacks

  pub one-fault : ((good : List Line) (line : Line) (between : List Line) (cause : Cause)
      → Begins (good ++ line ∷ between) → Wrong good line cause → ⊥) →
      ((good : List Line) (line : Line) (cause why : Cause) → Wrong good line cause → Wrong good line why
      → cause ≡ why) →
      ((good : List Line) (cause why : Cause) → Missing good cause → Missing good why → cause ≡ why) →
      (text : List ℕ) (line other : ℕ) (cause why : Cause) → Fault text line cause → Fault text other why
      → (line ≡ other) × (cause ≡ why)
  one-fault right same none-else text line other cause why first second =
      let a = first.0 in
      let b = second.0 in
      let both : a.good ++ a.line ∷ a.behind ≡ b.good ++ b.line ∷ b.behind = sym a.lines ∙ b.lines in
      elim (cases_lt (length a.good) (length b.good)) [
        | inl less ↦
            absurd (not-before right a.good a.line a.behind b.good b.line b.behind cause first.1 b.begins both
            less)
        | inr most ↦ elim (cases_lt (length b.good) (length a.good)) [
          | inl less ↦
              absurd (not-before right b.good b.line b.behind a.good a.line a.behind why second.1 a.begins
              (sym both) less)
          | inr least ↦
              (let cuts = same-cut a.good b.good a.line b.line a.behind b.behind both (omega arith) in (
                (let long = ap length cuts.0 in omega (arith, a.is_number, b.is_number, long)),
                same-why same none-else a.good a.line a.behind cause why first.1
                    (subst (λ (l : List Line). Why Wrong Missing cut l a.line a.behind why) (sym cuts.0)
                    (subst (λ (l : Line). Why Wrong Missing cut b.good l a.behind why) (sym cuts.1)
                    (subst (λ (l : List Line). Why Wrong Missing cut b.good b.line l why)
                    (sym cuts.2) second.1))),
              ))
        ]
      ]
