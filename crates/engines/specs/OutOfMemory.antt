-- Where an engine may run out of memory.
use Rattle.std.specs.Prelude.{◌≡◌, ℕ, ◌<◌, ◌⊎◌, ◌++◌, ◌∷◌, [], true, false, List, Some, IfSome, length}
use Rattle.std.specs.Io.KnownBytes.{Consumes, IsAtEnd}
use Rattle.events.specs.History.{History}
use Rattle.specification.specs.TraceText.{IsCutAt, Spells}
use Rattle.trace_text.specs.Place.{TakesMemoryAt}
use Rattle.byte_streams.specs.Streams.{HaveCome, Makes, ReadCall, SourceState, all_that_came}

-- with this piece behind what was read, a line is there, with its LF, after right lines, and reading it takes
-- memory; or a line was begun before the piece came
abbrev pub HasMemoryLine : List ℕ → List ℕ → Type 0
HasMemoryLine read piece = (line : ℕ) × (TakesMemoryAt (read ++ piece) line ⊎ IsCutAt read line)

-- the last read gave a piece, each one before it gave something too, and memory is needed for a line
pub record RunsOutAtPiece (before after : SourceState) : Type 0 where
  pub calls : List ReadCall
  pub asked : ℕ
  pub piece : List ℕ
  pub came : HaveCome calls
  pub made : Makes before.calls after.calls (calls ++ (record { asked = asked; came = Some piece } ∷ []))
  pub bytes : Consumes before.bytes after.bytes (all_that_came calls ++ piece)
  pub line : HasMemoryLine (all_that_came calls) piece

-- the whole text was read, and it spells a recording
abbrev pub WasReadWhole : SourceState → SourceState → Type 0
WasReadWhole before after =
    (h : History) × (after.ended ≡ true) × IsAtEnd after.bytes × IfSome before.bytes (λ text. Spells text h)

-- memory ran out at a piece of the trace, or where the recording that it spells was there
abbrev pub RunsOut : SourceState → SourceState → Type 0
RunsOut before after = RunsOutAtPiece before after ⊎ WasReadWhole before after

-- bytes came, and no read failed
abbrev pub HasBytes : SourceState → SourceState → Type 0
HasBytes before after =
    (after.failed ≡ false) × ((some : List ℕ) × (0 < length some) × Consumes before.bytes after.bytes some)

-- memory ran out at a piece of the trace, and the certificate was left alone; or the trace was read to its
-- end, and bytes of the certificate came, or all of them
abbrev pub RunsOutVerifying : SourceState → SourceState → SourceState → SourceState → Type 0
RunsOutVerifying trace trace_after cert cert_after =
    (RunsOutAtPiece trace trace_after × (cert_after ≡ cert))
    ⊎ ((trace_after.ended ≡ true) × (HasBytes cert cert_after ⊎ (cert_after.ended ≡ true)))

-- the text spells a recording, or has a line whose reading takes memory
abbrev pub TakesMemory : List ℕ → Type 0
TakesMemory text = ((h : History) × Spells text h) ⊎ ((line : ℕ) × TakesMemoryAt text line)
