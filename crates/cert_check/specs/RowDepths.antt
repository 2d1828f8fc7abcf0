-- The depths of elements in a row, and the numbers of those that have one.
use Rattle.std.specs.Prelude.{◌≡◌, ℕ, ◌<◌, List, [], All, length, set, slice_index}
use Rattle.cert_check.specs.declared.row_depths.RowDepths.{RowDepths}

-- of so many elements none has a depth, and none is noted
pub record IsUnset (count unset : ℕ) (row : RowDepths) : Type 0 where
  pub size : length row.depths.items ≡ count
  pub depths : All (λ d. d ≡ unset) row.depths.items
  pub noted : row.noted.items ≡ []

-- a value is written at a place where there was none
pub record IsWritten (values : List ℕ) (unset place value : ℕ) (after : List ℕ) : Type 0 where
  pub within : place < length values
  pub free : slice_index values place ≡ unset
  pub written : after ≡ set values place value
