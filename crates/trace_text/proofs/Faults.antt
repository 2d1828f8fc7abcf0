-- The first fault of a text, from what its right lines are and what follows them.
use Rattle.std.proofs.Common.{◌≡◌, ℕ, ◌+◌, ◌≤◌, List, [], ◌∷◌, ◌++◌, length, inl}
use Rattle.specification.specs.Lines.{Line, text_of, IsOneLine}
use Rattle.specification.specs.TraceText as format
use Rattle.specification.specs.TraceText.{IsFaultyLine, BeginsSpelling, HasWholeFault, IsCutAt}
use Rattle.specification.specs.TraceText.{IsFirstLineFault}
use Rattle.format_words.proofs.Places.{IsThere}

pub never-cut : (lines : List Line) (line : Line) → IsFaultyLine lines line format.cut → ⊥
never-cut [] line h = h
never-cut (a ∷ []) line h = h
never-cut (a ∷ b ∷ lines) line h = h

first-of-whole : (text : List ℕ) (number : ℕ) (lines : List Line) (line : Line) (cause : format.Cause)
    → IsFaultyLine lines line cause → HasWholeFault text number cause → IsFirstLineFault text number cause
first-of-whole text number lines line format.header h whole = inl whole
first-of-whole text number lines line format.replicas h whole = inl whole
first-of-whole text number lines line format.shape h whole = whole
first-of-whole text number lines line format.cut h whole = absurd (never-cut lines line h)
first-of-whole text number lines line (format.refused why) h whole = whole

-- a faulty line after right ones
pub faulty-there : (text : List ℕ) (number : ℕ) (lines : List Line) (line : Line) (cause : format.Cause)
    → IsThere BeginsSpelling text number lines line → IsFaultyLine lines line cause
    → HasWholeFault text number cause
faulty-there text number lines line cause at faulty = record {
  good = lines;
  begins = at.begins;
  faulty = line;
  one_line = at.one_line;
  more = at.more;
  text_is = at.text_is;
  number = at.number_is;
  is_faulty = faulty;
}

-- such a fault is the first of the text
pub whole-is-first : (text : List ℕ) (number : ℕ) (cause : format.Cause) → HasWholeFault text number cause
    → IsFirstLineFault text number cause
whole-is-first text number cause f = first-of-whole text number f.good f.faulty cause f.is_faulty f

-- after right lines, bytes without LF
pub cut-fault : (text : List ℕ) (number : ℕ) (lines : List Line) (rest : Line) → BeginsSpelling lines
    → 1 ≤ length rest → IsOneLine rest → text ≡ text_of lines ++ rest → number ≡ length lines + 1
    → IsCutAt text number
cut-fault text number lines rest begins some one whole is =
    record {
      good = lines;
      begins = begins;
      rest = rest;
      some_byte = some;
      one_line = one;
      text_is = whole;
      number = is;
    }
