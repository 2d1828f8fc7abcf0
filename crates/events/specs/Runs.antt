-- How far a text goes on with names that stand one after the other.
use Rattle.std.specs.Prelude.{◌≡◌, ℕ, ◌≤◌, ◌<◌, ◌==◌, ◌++◌, [], ◌∷◌, Bool, true, IsTrue, Option, Some, None}
use Rattle.std.specs.Prelude.{List, length, take, slice_get, All}
use Rattle.events.specs.Names.{NameBytes, IsName}
use Rattle.events.specs.Packed.{spaced}

-- after a name the text is at its end, or a space follows
abbrev pub may_follow : Option ℕ → Bool
may_follow None = true
may_follow (Some byte) = byte == 32

-- the text begins with these names, each after a space, and the last one's word ends with it
pub record BeginsWith (text : List ℕ) (names : List NameBytes) : Type 0 where
  pub same : take (length (spaced names)) text ≡ spaced names
  pub ends : IsTrue (may_follow (slice_get text (length (spaced names))))

-- the text begins with the first n of the names and with no more of them, and these take so many bytes
pub record IsLongestRun (text : List ℕ) (names : List NameBytes) (n bytes : ℕ) : Type 0 where
  pub within : n ≤ length names
  pub bytes_are : bytes ≡ length (spaced (take n names))
  pub begins : 0 < n → BeginsWith text (take n names)
  pub most : (m : ℕ) → m ≤ length names → BeginsWith text (take m names) → m ≤ n

-- the text begins with these names, n of them in so many bytes, and with no name more unless they are `most`
pub record AreFirstNames (most : ℕ) (text : List ℕ) (names : List NameBytes) (n bytes : ℕ) : Type 0 where
  pub are : All IsName names
  pub count : n ≡ length names
  pub bytes_are : bytes ≡ length (spaced names)
  pub few : length names ≤ most
  pub begins : 0 < length names → BeginsWith text names
  pub all : length names < most → (a : NameBytes) → IsName a → BeginsWith text (names ++ a ∷ []) → ⊥
