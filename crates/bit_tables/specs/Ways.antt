-- Ways along a table of which numbers stand after which, through the numbers from a first one on.
use Rattle.std.specs.Prelude.{◌≡◌, ℕ, zero, suc, ◌<◌, ◌≤◌, ◌↔◌, List, Contains}
use Rattle.std.specs.List.Sorted.{IsStrictlyIncreasing}
use Rattle.bit_tables.specs.Sets.{Has}
use Rattle.bit_tables.specs.Lists.{row_of}

-- the numbers below m that meet a condition, in rising order
pub record AreThoseBelow (P : ℕ → Type 0) (m : ℕ) (numbers : List ℕ) : Type 0 where
  pub has : (x : ℕ) → Contains numbers x ↔ ((x < m) × P x)
  pub rising : IsStrictlyIncreasing numbers

-- below n, one set has the number and the other has not
abbrev pub IsOutside : List ℕ → List ℕ → ℕ → ℕ → Type 0
IsOutside set other n x = (x < n) × (Has set x × (¬ Has other x))

-- the row of a number has another, and both count
pub record IsStep (rows : List (List ℕ)) (first a b : ℕ) : Type 0 where
  pub from : first ≤ a
  pub to : first ≤ b
  pub has : Has (row_of rows a) b

-- a way of so many steps from a to b
abbrev pub Way : List (List ℕ) → ℕ → ℕ → ℕ → ℕ → Type 0
Way rows first zero a b = a ≡ b
Way rows first (suc n) a b = (c : ℕ) × Way rows first n a c × IsStep rows first c b

-- the shortest way from a to b has so many steps
pub record IsDistance (rows : List (List ℕ)) (first n a b : ℕ) : Type 0 where
  pub way : Way rows first n a b
  pub shortest : (fewer : ℕ) → fewer < n → ¬ Way rows first fewer a b

-- the numbers below n at this distance from the source, in rising order
abbrev pub IsLayerAt : ℕ → List (List ℕ) → ℕ → ℕ → ℕ → List ℕ → Type 0
IsLayerAt n rows first source d layer = AreThoseBelow (IsDistance rows first d source) n layer
