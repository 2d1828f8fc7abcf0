-- Values that stand along a list of elements' numbers.
use Rattle.std.specs.Prelude.{ℕ, ◌+◌, ◌<◌, ◌≤◌, List, slice_index}
use Rattle.specification.specs.Members.{Before}

-- each value is above those before it
abbrev pub IsRising : List ℕ → Type 0
IsRising values = (a b : ℕ) → Before a b values → a < b

-- of the places from the first on that counts, none has a value more than one above one before it
abbrev pub IsGradualFrom : ℕ → List ℕ → List ℕ → Type 0
IsGradualFrom first values places = (x y : ℕ) → first ≤ x → first ≤ y → Before x y places
    → slice_index values y ≤ slice_index values x + 1

-- of the places from the first on that counts, what stands before the source has at least this value
abbrev pub IsDeepFrom : ℕ → List ℕ → ℕ → ℕ → List ℕ → Type 0
IsDeepFrom first values source bound places = (x : ℕ) → first ≤ x → Before x source places
    → bound ≤ slice_index values x
