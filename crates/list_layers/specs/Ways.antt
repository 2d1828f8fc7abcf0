-- Ways along lists, through the numbers from their source on.
use Rattle.std.specs.Prelude.{◌≡◌, ℕ, zero, suc, ◌<◌, ◌≤◌, List}
use Rattle.list_search.specs.Graph.{Before}
use Rattle.bit_tables.specs.Ways.{AreThoseBelow}

-- some list has a before b, and neither is less than the source
pub record IsStep (lists : List (List ℕ)) (source a b : ℕ) : Type 0 where
  pub from : source ≤ a
  pub to : source ≤ b
  pub shown : Before lists a b

-- a way of so many steps from the source to x
abbrev pub Way : List (List ℕ) → ℕ → ℕ → ℕ → Type 0
Way lists source zero x = source ≡ x
Way lists source (suc n) x = (c : ℕ) × Way lists source n c × IsStep lists source c x

-- the shortest way from the source to x has so many steps
pub record IsDistance (lists : List (List ℕ)) (source n x : ℕ) : Type 0 where
  pub way : Way lists source n x
  pub shortest : (fewer : ℕ) → fewer < n → ¬ Way lists source fewer x

-- the numbers below n at this distance from the source, in rising order
abbrev pub IsLayerAt : ℕ → List (List ℕ) → ℕ → ℕ → List ℕ → Type 0
IsLayerAt n lists source d layer = AreThoseBelow (IsDistance lists source d) n layer
