-- Where a fault stands, whatever its cause, and which lines take memory.
use Rattle.std.specs.Prelude.{◌≡◌, ℕ, ◌≤◌, ◌⊎◌, None, List, [], ◌∷◌}
use Rattle.events.specs.History.{History}
use Rattle.events.specs.Session.{first_refusal}
use Rattle.events.specs.declared.TheConstants.{MOST_REPLICAS}
use Rattle.events.specs.declared.entry.Entry.{Entry}
use Rattle.specification.specs.Lines.{Line}
use Rattle.specification.specs.TraceText.{BeginsSpelling, IsEntry, IsSpelledIn, entry_line, replicas_line}
use Rattle.specification.specs.TraceText.{trace_lines}
use Rattle.specification.specs.Versions.{Version}
use Rattle.trace_text.specs.Reading.{HasEntryNames}
use Rattle.format_words.specs.Place as place

-- the lines before the one of this number are the first ones of some recording's spelling
abbrev pub IsBehindRightLines : List ℕ → ℕ → Type 0
IsBehindRightLines text line = place.IsBehindRightLines BeginsSpelling text line

-- after these right lines, reading this line takes memory: it begins a recording, or it is an entry that has
-- names in its response, or one that is recorded
abbrev pub TakesMemory : List Line → Line → Type 0
TakesMemory [] line = ⊥
TakesMemory (first ∷ []) line = (n : ℕ) × (1 ≤ n) × (n ≤ MOST_REPLICAS) × (line ≡ replicas_line n)
TakesMemory (first ∷ second ∷ entries) line =
    (version : Version) × (h : History) × IsSpelledIn version h
    × (trace_lines version h ≡ first ∷ second ∷ entries)
    × (e : Entry) × IsEntry version e × (line ≡ entry_line e)
    × (HasEntryNames e ⊎ (first_refusal h.replicas h.entries e ≡ None))

-- the line of this number is there, with its LF, after right lines, and reading it takes memory
abbrev pub TakesMemoryAt : List ℕ → ℕ → Type 0
TakesMemoryAt text line = place.TakesMemoryAt BeginsSpelling TakesMemory text line
