-- How far a text is read: the right lines so far.
use Rattle.std.specs.Prelude.{List, [], ◌∷◌}
use Rattle.specification.specs.Lines.{Line}
use Rattle.specification.specs.TraceText.{header_line, trace_lines, IsSpelledIn}
use Rattle.trace_text.specs.Versions.{version_in}
use Rattle.trace_text.specs.declared.reading.Reading.{Reading}
use Rattle.trace_text.specs.declared.reading.Reading.TheVariants.{Start, Headed, Entries}

abbrev pub good : Reading → List Line
good Start = []
good (Headed version) = header_line (version_in version) ∷ []
good (Entries recording) = trace_lines recording.0 recording.1

-- what is recorded keeps the rules, and the version spells it
abbrev pub IsLegalSoFar : Reading → Type 0
IsLegalSoFar Start = Unit {0}
IsLegalSoFar (Headed version) = Unit {0}
IsLegalSoFar (Entries recording) = IsSpelledIn recording.0 recording.1
