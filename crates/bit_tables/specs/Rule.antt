-- The layer rule on numbers: what layers of numbers show of lists of them.
use Rattle.std.specs.Prelude.{ℕ, ◌+◌, ◌<◌, ◌≤◌, ◌↔◌, List, [], Contains, Vec, length, map, slice_index}
use Rattle.std.specs.Prelude.{slice_index_or}
use Rattle.std.specs.Global.{Global}
use Rattle.bit_tables.specs.Lists.{IsShown}

-- the numbers of the layer at a place, where each layer is a vector
abbrev pub layer_at : List (Vec ℕ Global) → ℕ → List ℕ
layer_at layers d = slice_index_or (map (λ layer. layer.items) layers) d []

-- one of the first m layers has the number
abbrev pub StandsBelow : ℕ → List (List ℕ) → ℕ → Type 0
StandsBelow m layers x = (i : ℕ) × (i < m) × Contains (slice_index_or layers i []) x

-- of the numbers from the first on that counts: the depth of a number is the place of the first layer that
-- has it; the count of layers where none has
pub record AreDepths (first : ℕ) (layers : List (List ℕ)) (depth : ℕ → ℕ) : Type 0 where
  pub below : (m x : ℕ) → first ≤ x → m ≤ length layers → (depth x < m) ↔ StandsBelow m layers x
  pub most : (x : ℕ) → first ≤ x → depth x ≤ length layers

-- the numbers are just those whose depth is below the count
abbrev pub HaveDepths : List ℕ → ℕ → List ℕ → Type 0
HaveDepths depths count numbers =
    (x : ℕ) → Contains numbers x ↔ ((x < length depths) × (slice_index depths x < count))

-- of the numbers from the first on that counts: none is more than one layer deeper than one that stands
-- before it, and what stands before the source is as deep as can be
pub record MeetsRule (lists : List (List ℕ)) (first source most : ℕ) (depth : ℕ → ℕ) : Type 0 where
  pub gradual : (x y : ℕ) → first ≤ x → first ≤ y → IsShown lists x y → depth y ≤ depth x + 1
  pub deep : (x : ℕ) → first ≤ x → IsShown lists x source → most ≤ depth x
