-- Where a fault stands, whatever its cause, and which lines take memory.
use Rattle.std.specs.Prelude.{◌≡◌, ◌≢◌, ℕ, ◌+◌, ◌≤◌, codes, List, [], ◌∷◌, ◌++◌, length}
use Rattle.specification.specs.Lines.{Line}
use Rattle.specification.specs.CertificateText.{BeginsCertificate}
use Rattle.format_words.specs.Place as place

-- the lines before the one of this number are the first ones of some certificate's spelling
abbrev pub IsBehindRightLines : List ℕ → ℕ → Type 0
IsBehindRightLines text line = place.IsBehindRightLines BeginsCertificate text line

-- after these right lines, reading this line takes memory: it is the third or a later one, some certificate's
-- spelling goes on with it, and it is not that of an order without names
abbrev pub TakesMemory : List Line → Line → Type 0
TakesMemory lines line =
    (2 ≤ length lines) × BeginsCertificate (lines ++ line ∷ []) × (line ≢ codes "order :")

-- the line of this number is there, with its LF, after right lines, and reading it takes memory
abbrev pub TakesMemoryAt : List ℕ → ℕ → Type 0
TakesMemoryAt text line = place.TakesMemoryAt BeginsCertificate TakesMemory text line
