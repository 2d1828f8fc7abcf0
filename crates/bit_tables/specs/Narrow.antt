-- Small numbers in place of depths.
use Rattle.std.specs.Prelude.{◌≡◌, ℕ, ◌+◌, ◌<◌, ◌≤◌, ◌↔◌, List, length, slice_index, slice_index_or}

-- a number stands to another as one depth to the other: whether it is at most that, and at most one more
pub record AreAlike (a b small_a small_b : ℕ) : Type 0 where
  pub order : (a ≤ b) ↔ (small_a ≤ small_b)
  pub step : (a ≤ b + 1) ↔ (small_a ≤ small_b + 1)

-- a number for each depth of the list, which stand to one another as the depths
pub record AreNarrowed (wide narrow : List ℕ) : Type 0 where
  pub len : length narrow ≡ length wide
  pub alike : (i j : ℕ) → i < length wide → j < length wide
      → AreAlike (slice_index wide i) (slice_index wide j) (slice_index narrow i) (slice_index narrow j)

-- the number in place of a depth of the list
abbrev pub StandsFor : List ℕ → List ℕ → ℕ → ℕ → Type 0
StandsFor wide narrow depth small =
    (i : ℕ) × (i < length wide) × (slice_index wide i ≡ depth) × (slice_index narrow i ≡ small)

-- small depths, and a small count, stand to one another as the depths and the count; a number without a
-- depth is as deep as the count
pub record AreSmall (depths : List ℕ) (count : ℕ) (small : List ℕ) (most : ℕ) : Type 0 where
  pub len : length small ≡ length depths
  pub alike : (x y : ℕ)
      → AreAlike (slice_index_or depths x count) (slice_index_or depths y count) (slice_index_or small x most)
      (slice_index_or small y most)
