-- What a search writes on, as it is before one: nothing is seen, and each mark is at its list's end.
use Rattle.std.specs.Prelude.{◌≡◌, ◌≢◌, ℕ, ◌⊎◌, Bool, false, Some, List, length, map, replicate, slice_get}
use Rattle.std.specs.Prelude.{slice_index}
use Rattle.order_graph.specs.Lists.{lists_of, row, Stands}
use Rattle.order_graph.specs.Spots.{spots_of}
use Rattle.order_graph.specs.declared.spot.Spot.{Spot}
use Rattle.specification.specs.Responses.{Responses}
use Rattle.list_search.specs.Graph.{Graph}
use Rattle.list_search.specs.Progress.{FitsState}
use Rattle.list_search.specs.declared.searching.state.State.{State}

-- nothing is seen, and each mark is at its list's end
pub record IsClean (g : Graph) (st : State) : Type 0 where
  pub fits : FitsState g st
  pub marks : st.marks.items ≡ map (λ r. length r) g.rows
  pub seen : st.seen.items ≡ replicate g.elements false

-- the mark of a list is at its end, or is as it was, and x does not stand there
abbrev pub IsRestored : List (List ℕ) → ℕ → List ℕ → List ℕ → ℕ → Type 0
IsRestored rows x old new l =
    (slice_index new l ≡ length (row rows l))
    ⊎ ((slice_index new l ≡ slice_index old l) × ((p : ℕ) → ¬ Stands rows l p x))

-- the same, where x has its i-th spot in another list
abbrev pub IsRestoredAt : List (List ℕ) → ℕ → ℕ → List ℕ → List ℕ → ℕ → Type 0
IsRestoredAt rows x i old new l =
    (slice_index new l ≡ length (row rows l))
    ⊎ ((slice_index new l ≡ slice_index old l)
    × ((q : Spot) → slice_get (spots_of rows x) i ≡ Some q → q.list ≢ l))

-- what a scratch that is clean between searches shows
pub record ReadyView : Type 0 where
  pub marks : List ℕ
  pub seen : List Bool
  pub places : ℕ
  pub looked : ℕ

-- it is clean for the lists of these responses
pub record IsReady (s : ReadyView) (v : Responses) : Type 0 where
  pub marks : s.marks ≡ map (λ r. length r) (lists_of v)
  pub seen : s.seen ≡ replicate (length v.elements) false
  pub places : s.places ≡ length v.elements
