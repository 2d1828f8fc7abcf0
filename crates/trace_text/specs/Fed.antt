-- What a reader keeps of the text that it was fed, piece by piece.
use Rattle.std.specs.Prelude.{◌≡◌, ℕ, ◌≤◌, Option, Some, None, List, [], ◌++◌, length, IfSome}
use Rattle.specification.specs.Lines.{Line, text_of, IsOneLine}
use Rattle.specification.specs.TraceText.{BeginsSpelling, HasWholeFault}
use Rattle.format_words.specs.Place as place
use Rattle.trace_text.specs.Causes.{cause_of}
use Rattle.trace_text.specs.Kept.{EMPTY, IsKeptOf, Keeps, Kept}
use Rattle.trace_text.specs.declared.cause.LineFault.{LineFault}

-- the right lines so far, what is kept of the line begun, and the fault that each call answers; nothing is
-- kept where memory ran out for the line
pub record ReaderState : Type 0 where
  pub lines : List Line
  pub begun : Option Kept
  pub fault : Option LineFault

-- a reader of which nothing was asked
abbrev pub UNFED : ReaderState
UNFED = record { lines = []; begun = Some EMPTY; fault = None }

-- the line of this number is there, with its LF, after right lines
abbrev pub HasLineAt : List ℕ → ℕ → Type 0
HasLineAt text line = place.TakesMemoryAt BeginsSpelling (λ lines next. Unit {0}) text line

-- that line is there, and faulty for this cause, or memory ran out for it
pub record HoldsFault (text : List ℕ) (fault : LineFault) : Type 0 where
  pub there : HasLineAt text fault.line
  pub faulty : IfSome (cause_of fault.cause) (HasWholeFault text fault.line)

-- the text ends in a line without its LF, of which this is kept
abbrev pub EndsIn : List Line → Option Kept → List ℕ → Type 0
EndsIn lines (Some kept) text =
    (begun : List ℕ) × IsKeptOf kept begun × IsOneLine begun × (text ≡ text_of lines ++ begun)
EndsIn lines None text =
    (begun : List ℕ) × (1 ≤ length begun) × IsOneLine begun × (text ≡ text_of lines ++ begun)

-- right lines, and then so
abbrev pub IsOpenAt : List Line → Option Kept → List ℕ → Type 0
IsOpenAt lines begun text = BeginsSpelling lines × EndsIn lines begun text

abbrev pub WasFedTo : List Line → Option Kept → Option LineFault → List ℕ → Type 0
WasFedTo lines begun None text = IsOpenAt lines begun text
WasFedTo lines begun (Some fault) text = HoldsFault text fault

-- the pieces that were fed, joined, are this text: right lines and a line begun, or a text with the fault
abbrev pub WasFed : ReaderState → List ℕ → Type 0
WasFed reader text = WasFedTo reader.lines reader.begun reader.fault text

-- these bytes of the line were added to what was kept of it, or the line is lost
abbrev pub IsAdded : Option Kept → List ℕ → Option Kept → Type 0
IsAdded (Some old) bytes (Some new) = Keeps old bytes new
IsAdded (Some old) bytes None = 1 ≤ length bytes
IsAdded None bytes (Some new) = ⊥
IsAdded None bytes None = Unit {0}

-- the word begun stands behind the whole words, or the line is lost
abbrev pub IsClosed : Option Kept → Option Kept → Type 0
IsClosed (Some old) (Some new) = new.whole ≡ old.whole ++ old.word
IsClosed (Some old) None = Unit {0}
IsClosed None (Some new) = ⊥
IsClosed None None = Unit {0}

-- these are the whole words that are kept
abbrev pub ShowsWhole : Option Kept → List ℕ → Type 0
ShowsWhole (Some kept) bytes = kept.whole ≡ bytes
ShowsWhole None bytes = ⊥
