-- Bytes that are the same.
use Rattle.std.specs.Prelude.{◌≡◌, ◌≢◌, ◌==◌, ℕ, ◌<◌, ◌≤◌, Bool, List, not, slice_index}
use Rattle.std.specs.Simd.Lanes.{zip2}

-- of two bytes at a time whether they differ
abbrev pub unlike : List ℕ → List ℕ → List Bool
unlike a b = zip2 (λ x y. not (x == y)) a b

-- of the first `most` bytes the first n are the same, and the next one differs
pub record AreSame (a b : List ℕ) (most n : ℕ) : Type 0 where
  pub within : n ≤ most
  pub same : (k : ℕ) → k < n → slice_index a k ≡ slice_index b k
  pub differs : n < most → slice_index a n ≢ slice_index b n
