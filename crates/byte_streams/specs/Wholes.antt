-- How the calls went by which a whole text was read or written.
use Rattle.std.specs.Prelude.{◌≡◌, ℕ, ◌<◌, ◌⊎◌, Some, List, [], ◌∷◌, ◌++◌, length, take}
use Rattle.byte_streams.specs.Streams.{ReadCall, WriteCall, HaveCome, EndInFailure, all_that_came, HaveTaken}
use Rattle.byte_streams.specs.Streams.{EndInRefusal, all_that_was_taken}
use Rattle.byte_streams.specs.declared.source.ReadFault.{ReadFault}
use Rattle.byte_streams.specs.declared.source.ReadFault.TheVariants.{Read, Memory}

-- each read but the last gave something, and together they gave the text; the last came to the end
abbrev pub CameAs : List ℕ → List ReadCall → Type 0
CameAs text calls =
    (before : List ReadCall) × (asked : ℕ)
    × (calls ≡ before ++ (record { asked = asked; came = Some [] } ∷ []))
    × HaveCome before × (all_that_came before ≡ text)

-- the last read failed, or the limit was reached with no end in sight; out of memory comes only after a byte
abbrev pub EndedBy : ReadFault → ℕ → List ReadCall → Type 0
EndedBy Read reads calls = EndInFailure calls ⊎ (HaveCome calls × (reads ≡ 268435456))
EndedBy Memory reads calls = HaveCome calls × (0 < length (all_that_came calls))

-- each write took something, and together they took the text
abbrev pub TakenAs : List ℕ → List WriteCall → Type 0
TakenAs text calls = HaveTaken calls × (all_that_was_taken calls ≡ text)

-- the last write failed or took no byte, and those before it took a prefix of the text, and not all
abbrev pub TakenInPart : List ℕ → List WriteCall → Type 0
TakenInPart text calls = EndInRefusal calls × ((n : ℕ) × (n < length text)
    × (all_that_was_taken calls ≡ take n text))
