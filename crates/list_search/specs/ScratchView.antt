-- What a scratch shows: the graphs that it fits, and how much the last search looked at.
use Rattle.std.specs.Prelude.{◌≡◌, ℕ, ◌+◌, ◌*◌, ◌≤◌, Option, Some, None, length}
use Rattle.specification.specs.Responses.{Responses, place_count}

-- looked : places looked at plus elements expanded in the last search, 0 before one
pub record ScratchView : Type 0 where
  pub elements : ℕ
  pub lists : ℕ
  pub looked : ℕ

-- a scratch fits the graphs with as many elements and lists as it was made for
pub record Fits (s : ScratchView) (v : Responses) : Type 0 where
  pub elements : s.elements ≡ length v.elements
  pub lists : s.lists ≡ length v.returned

-- no search looks at more than all places and all elements, and one that finds m looks at 2m at least
abbrev pub LooksWithin : Responses → ℕ → Option ℕ → Type 0
LooksWithin v looked None = looked ≤ place_count v + length v.elements
LooksWithin v looked (Some m) = (looked ≤ place_count v + length v.elements) × (2 * m ≤ looked)
