-- What the program does to the world in which it runs.
use Rattle.std.specs.Prelude.{◌≡◌, ℕ, List, false}
use Rattle.byte_streams.specs.Streams.{SourceState}
use Rattle.finder_cli.specs.declared.fault.ProgramFault.{ProgramFault}

-- a stream was opened by a word, and was then so; or it could not be opened; a stream was taken back, and
-- was then so; the line of a fault was written to standard error
pub data Deed : Type 0 where
  opened : List ℕ → SourceState → Deed
  missed : List ℕ → Deed
  closed : SourceState → Deed
  complained : ProgramFault → Deed

-- a stream of which no read was made
abbrev pub IsFresh : SourceState → Type 0
IsFresh source = (source.reads ≡ 0) × (source.failed ≡ false) × (source.ended ≡ false)
