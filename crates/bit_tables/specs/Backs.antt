-- What holds while a list is noted from its end on.
use Rattle.std.specs.Prelude.{◌≡◌, ℕ, ◌≤◌, ◌⊎◌, ◌↔◌, Some, List, length, slice_get, vec_len, Contains}
use Rattle.bit_tables.specs.Sets.{Has, room}
use Rattle.bit_tables.specs.Lists.{HaveWidth}
use Rattle.bit_tables.specs.declared.noting.Back.{Back}

-- from place i on the list has x
abbrev pub StandsFrom : ℕ → List ℕ → ℕ → Type 0
StandsFrom i w x = (j : ℕ) × (i ≤ j) × (slice_get w j ≡ Some x)

-- the set has what stands from i on
abbrev pub IsAfter : ℕ → List ℕ → List ℕ → Type 0
IsAfter i w after = (x : ℕ) → Has after x ↔ StandsFrom i w x

-- there is a place for each row, and a bit for each in each row and in the set
pub record IsSized (rows : List (List ℕ)) (b : Back) : Type 0 where
  pub places : vec_len b.places ≡ length rows
  pub width : HaveWidth (length b.after) rows
  pub room : length rows ≤ room b.after

-- this is known of the list from place i on: what stands there is fresh, or stands in the known list from the
-- place `next` on
pub record IsBack (known w : List ℕ) (i : ℕ) (b : Back) : Type 0 where
  pub after : IsAfter i w b.after
  pub fresh : (x : ℕ) → Contains b.fresh.items x → Has b.after x
  pub kept : (x : ℕ) → Has b.after x → Contains b.fresh.items x ⊎ StandsFrom b.next known x
