-- What contracts see of a reader and of a writer: the bytes, where they are known, and how the calls went.
use Rattle.std.specs.Prelude.{◌≡◌, ℕ, suc, zero, ◌<◌, ◌⊎◌, Bool, true, false, Option, None, Some, List, []}
use Rattle.std.specs.Prelude.{◌∷◌, ◌++◌, length, take, ⊤, IsSome}
use Rattle.std.specs.Io.KnownBytes.{Appends}

-- one read: how many bytes were asked for, and what came; none where it failed
pub record ReadCall : Type 0 where
  pub asked : ℕ
  pub came : Option (List ℕ)

-- one write: what was handed over, and how many bytes of its front were taken; none where it failed
pub record WriteCall : Type 0 where
  pub handed : List ℕ
  pub taken : Option ℕ

-- known calls grow by these
abbrev pub Makes : {A : Type 0} → Option (List A) → Option (List A) → List A → Type 0
Makes None new calls = ⊤
Makes (Some before) None calls = ⊥
Makes (Some before) (Some after) calls = after ≡ before ++ calls

-- the bytes that a reader has left, its calls, how many of them were made here, whether one failed, and
-- whether one came to the end
pub record SourceState : Type 0 where
  pub bytes : Option (List ℕ)
  pub calls : Option (List ReadCall)
  pub reads : ℕ
  pub failed : Bool
  pub ended : Bool

-- a reader that is not asked again before its end: a read failed, or the limit of reads was reached
abbrev pub IsClosed : SourceState → Type 0
IsClosed source = (source.ended ≡ false) × ((source.failed ≡ true) ⊎ (source.reads ≡ 268435456))

-- a reader that is asked: no read has failed, none came to the end, and the limit is not reached
abbrev pub IsOpen : SourceState → Type 0
IsOpen source = (source.ended ≡ false) × (source.failed ≡ false) × (source.reads < 268435456)

-- the bytes that came by a read
abbrev pub bytes_of_read : Option (List ℕ) → List ℕ
bytes_of_read None = []
bytes_of_read (Some bytes) = bytes

-- all bytes that came, one read after the other
abbrev pub all_that_came : List ReadCall → List ℕ
all_that_came [] = []
all_that_came (call ∷ calls) = bytes_of_read call.came ++ all_that_came calls

-- the bytes that are seen to come: a read that gives none is the end
abbrev pub some_bytes : Option (List ℕ) → Option (List ℕ)
some_bytes None = None
some_bytes (Some []) = None
some_bytes (Some (byte ∷ bytes)) = Some (byte ∷ bytes)

-- each read gave a byte at least
abbrev pub HaveCome : List ReadCall → Type 0
HaveCome [] = Unit {0}
HaveCome (call ∷ calls) = IsSome (some_bytes call.came) × HaveCome calls

-- the last read failed, and each before it gave a byte at least
abbrev pub EndInFailure : List ReadCall → Type 0
EndInFailure calls = (before : List ReadCall) × (asked : ℕ)
    × (calls ≡ before ++ (record { asked = asked; came = None } ∷ [])) × HaveCome before

-- the bytes that a writer holds, its calls, and whether one failed or took no byte
pub record SinkState : Type 0 where
  pub bytes : Option (List ℕ)
  pub calls : Option (List WriteCall)
  pub failed : Bool

-- known bytes grow by a prefix of these, and not by all
abbrev pub AppendsFront : Option (List ℕ) → Option (List ℕ) → List ℕ → Type 0
AppendsFront old new bytes = (n : ℕ) × (n < length bytes) × Appends old new (take n bytes)

-- how many bytes are seen to be taken: a write that takes none counts as failed
abbrev pub at_least_one : Option ℕ → Option ℕ
at_least_one None = None
at_least_one (Some zero) = None
at_least_one (Some (suc n)) = Some (suc n)

-- the bytes that were taken by a write
abbrev pub bytes_of_write : List ℕ → Option ℕ → List ℕ
bytes_of_write handed None = []
bytes_of_write handed (Some n) = take n handed

-- all bytes that were taken, one write after the other
abbrev pub all_that_was_taken : List WriteCall → List ℕ
all_that_was_taken [] = []
all_that_was_taken (call ∷ calls) = bytes_of_write call.handed call.taken ++ all_that_was_taken calls

-- each write took a byte at least
abbrev pub HaveTaken : List WriteCall → Type 0
HaveTaken [] = Unit {0}
HaveTaken (call ∷ calls) = IsSome (at_least_one call.taken) × HaveTaken calls

-- the last write failed or took no byte, and no other
abbrev pub EndInRefusal : List WriteCall → Type 0
EndInRefusal calls =
    (before : List WriteCall) × (last : WriteCall) × (calls ≡ before ++ (last ∷ []))
    × (at_least_one last.taken ≡ None) × HaveTaken before
