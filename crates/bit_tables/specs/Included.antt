-- Rows that have nothing that the row of the number before has not.
use Rattle.std.specs.Prelude.{◌≡◌, ℕ, ◌-◌, Bool, true, List, Some, slice_get}
use Rattle.bit_tables.specs.Sets.{Has}
use Rattle.bit_tables.specs.Lists.{row_of}

-- the row of the number before has all that this number's row has
abbrev pub IsIncluded : List (List ℕ) → ℕ → Type 0
IsIncluded rows x = (y : ℕ) → Has (row_of rows x) y → Has (row_of rows (x - 1)) y

-- it is so of each number of which it is noted
abbrev pub AreIncluded : List (List ℕ) → List Bool → Type 0
AreIncluded rows included = (x : ℕ) → slice_get included x ≡ Some true → IsIncluded rows x
