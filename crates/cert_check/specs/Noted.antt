-- Values noted for elements, name by name.
use Rattle.std.specs.Prelude.{◌≡◌, ◌≢◌, ℕ, ◌+◌, ◌<◌, List, [], ◌∷◌, ◌++◌, length, map, slice_get, slice_index}
use Rattle.std.specs.Prelude.{Some}
use Rattle.events.specs.Names.{NameBytes}
use Rattle.specification.specs.LayerRule.{Row}
use Rattle.specification.specs.Members.{In, Once}

-- a name and its value
abbrev pub Noted : Type 0
Noted = NameBytes × ℕ

-- the same value for each name of a layer
abbrev pub at_depth : ℕ → List NameBytes → List Noted
at_depth d = map (λ a. (a, d))

-- the depth of each name of a row, whose first layer has this one
abbrev pub pairs_from : ℕ → Row → List Noted
pairs_from d [] = []
pairs_from d (layer ∷ row) = at_depth d layer ++ pairs_from (d + 1) row

-- the place of each name of an order, whose first has this one
abbrev pub placed_from : ℕ → List NameBytes → List Noted
placed_from i [] = []
placed_from i (a ∷ order) = (a, i) ∷ placed_from (i + 1) order

-- each name is an element, and none stands twice
pub record CanBeNoted (names : List NameBytes) (noted : List Noted) : Type 0 where
  pub elements : (p : Noted) → In p noted → In p.0 names
  pub once : Once (map (λ p. p.0) noted)

-- each element has the value that is noted for its name, and the others have none
pub record Holds (names : List NameBytes) (unset : ℕ) (noted : List Noted) (values : List ℕ) : Type 0 where
  pub size : length values ≡ length names
  pub can : CanBeNoted names noted
  pub here : (p : Noted) (i : ℕ) → In p noted → slice_get names i ≡ Some p.0
      → (slice_index values i ≡ p.1) × (p.1 < unset)
  pub others : (a : NameBytes) (i : ℕ) → slice_get names i ≡ Some a → slice_index values i ≢ unset
      → In (a, slice_index values i) noted
