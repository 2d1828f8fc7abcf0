-- Which numbers stand before which in some lists.
use Rattle.std.specs.Prelude.{◌≡◌, ℕ, ◌<◌, ◌+◌, ◌/◌, ◌↔◌, List, [], Some, length, slice_get, slice_index_or}
use Rattle.bit_tables.specs.Sets.{Has}

-- the list has a at a lesser place than b
abbrev pub HasInOrder : List ℕ → ℕ → ℕ → Type 0
HasInOrder w a b = (i : ℕ) × (j : ℕ) × (i < j) × (slice_get w i ≡ Some a) × (slice_get w j ≡ Some b)

-- one of the first n lists has a at a lesser place than b
abbrev pub IsShownBelow : ℕ → List (List ℕ) → ℕ → ℕ → Type 0
IsShownBelow n lists a b = (k : ℕ) × (k < n) × HasInOrder (slice_index_or lists k []) a b

-- some list has a at a lesser place than b
abbrev pub IsShown : List (List ℕ) → ℕ → ℕ → Type 0
IsShown lists a b = IsShownBelow (length lists) lists a b

-- the row of a number
abbrev pub row_of : List (List ℕ) → ℕ → List ℕ
row_of rows a = slice_index_or rows a []

-- the rows have this many words each
abbrev pub HaveWidth : ℕ → List (List ℕ) → Type 0
HaveWidth width rows = (a : ℕ) → a < length rows → length (row_of rows a) ≡ width

-- the rows have what the list shows
abbrev pub HasList : List (List ℕ) → List ℕ → Type 0
HasList rows w = (a b : ℕ) → a < length rows → HasInOrder w a b → Has (row_of rows a) b

-- the table has a row for each number below n, of those that stand after it in some list
pub record IsTableOf (n : ℕ) (lists rows : List (List ℕ)) : Type 0 where
  pub len : length rows ≡ n
  pub width : HaveWidth (n / 64 + 1) rows
  pub shown : (a b : ℕ) → a < n → Has (row_of rows a) b ↔ IsShown lists a b
