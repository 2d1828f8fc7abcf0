-- What is known of layers so far, and of marks that are set back.
use Rattle.std.specs.Prelude.{◌≡◌, ℕ, ◌+◌, ◌<◌, ◌⊎◌, ◌↔◌, List, [], Contains, length, slice_index}
use Rattle.std.specs.Prelude.{slice_index_or}
use Rattle.std.specs.List.Sorted.{IsStrictlyIncreasing}
use Rattle.order_graph.specs.Lists.{row}
use Rattle.list_search.specs.Graph.{Graph}
use Rattle.bit_tables.specs.Rule.{StandsBelow}
use Rattle.list_layers.specs.declared.state.State.{State}
use Rattle.list_layers.specs.Progress.{HasSpot, IsGood, IsSeen}
use Rattle.list_layers.specs.Ways.{Way}

-- x stands in one of these layers, the last of them left out
abbrev pub StandsBeforeLast : ℕ → List (List ℕ) → ℕ → Type 0
StandsBeforeLast m layers x = (j : ℕ) × (j + 1 < m) × Contains (slice_index_or layers j []) x

-- m layers are made from s: each holds what it is to hold, and what follows those but the last was entered
pub record IsWalked (g : Graph) (s m : ℕ) (layers : List (List ℕ)) (st : State) : Type 0 where
  pub count : length layers ≡ m
  pub good : IsGood g s st
  pub seen_is : (x : ℕ) → IsSeen st.seen.items x ↔ StandsBelow m layers x
  pub sound : (j x : ℕ) → j < m → Contains (slice_index_or layers j []) x → (x < g.elements) × Way g.rows s j x
  pub found : (j x : ℕ) → j < m → Way g.rows s j x → StandsBelow (j + 1) layers x
  pub apart : (i j x : ℕ) → i < j → j < m → Contains (slice_index_or layers i []) x
      → ¬ Contains (slice_index_or layers j []) x
  pub rising : (j : ℕ) → j < m → IsStrictlyIncreasing (slice_index_or layers j [])
  pub touched : (l : ℕ) → (slice_index st.marks.items l ≡ length (row g.rows l))
      ⊎ ((x : ℕ) × StandsBeforeLast m layers x × HasSpot g.rows x l)

-- the mark of a list is at its end, or is as it was, and nothing that meets P stands there
abbrev pub IsRestored : List (List ℕ) → (ℕ → Type 0) → List ℕ → List ℕ → ℕ → Type 0
IsRestored rows P old new l =
    (slice_index new l ≡ length (row rows l))
    ⊎ ((slice_index new l ≡ slice_index old l) × ((x : ℕ) → P x → ¬ HasSpot rows x l))
