-- Laws of the trace text: a text says one thing.
use Rattle.std.specs.Prelude.{◌≡◌, ℕ, List}
use Rattle.events.specs.History.{History, IsLegal}
use Rattle.specification.specs.TraceText as format
use Rattle.specification.specs.TraceText.{Spells, IsFirstLineFault, trace_text}

-- a text spells at most one recording
abbrev pub TextsSpellOneRecording : Type 0
TextsSpellOneRecording = (text : List ℕ) (g h : History) → Spells text g → Spells text h → g ≡ h

-- what is written of a recording spells it
abbrev pub WrittenTextsSpell : Type 0
WrittenTextsSpell = (h : History) → IsLegal h → Spells (trace_text h) h

-- a text that spells a recording has no fault
abbrev pub SpelledTextsHaveNoFault : Type 0
SpelledTextsHaveNoFault = (text : List ℕ) (h : History) (line : ℕ) (cause : format.Cause) → Spells text h
    → ¬ IsFirstLineFault text line cause

-- a text has at most one first fault
abbrev pub TextsHaveOneFirstFault : Type 0
TextsHaveOneFirstFault =
    (text : List ℕ) (line other : ℕ) (cause why : format.Cause) → IsFirstLineFault text line cause
    → IsFirstLineFault text other why → (line ≡ other) × (cause ≡ why)
