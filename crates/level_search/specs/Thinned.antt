-- Lists that are left out of a search, since others show all that they show.
use Rattle.std.specs.Prelude.{◌≡◌, ℕ, ◌+◌, ◌<◌, ◌≤◌, Bool, false, Option, Some, None, List, length, slice_index}
use Rattle.specification.specs.Responses.{Responses}
use Rattle.order_graph.specs.Emptied.{emptied, is_marked}
use Rattle.order_graph.specs.Lists.{lists_of, BeforeIn}
use Rattle.list_search.specs.Graph.{Before}

-- what one list has in order, another has in the same order
abbrev pub IsHeld : List ℕ → List ℕ → Type 0
IsHeld list other = (p q : ℕ) → p < q → q < length list
    → (i : ℕ) × (j : ℕ) × (i < j) × (j < length other) × (slice_index other i ≡ slice_index list p)
    × (slice_index other j ≡ slice_index list q)

-- the place before this one, not before `next`, is the one that was written down for x, and x stands there
pub record IsBehindPlace (places other : List ℕ) (x next behind : ℕ) : Type 0 where
  pub noted : slice_index places x + 1 ≡ behind
  pub low : next < behind
  pub within : behind ≤ length other
  pub here : slice_index other (slice_index places x) ≡ x

-- whatever stands before another does so in a list that is not marked
abbrev pub AllIsShown : List (List ℕ) → List Bool → Type 0
AllIsShown rows marks = (a b : ℕ) → Before rows a b
    → (l : ℕ) × (is_marked marks l ≡ false) × BeforeIn rows l a b

-- the same responses, of which some are empty, since others show what these showed
pub record IsThinned (v thinned : Responses) : Type 0 where
  pub marks : List Bool
  pub is_emptied : thinned ≡ emptied v marks
  pub all_is_shown : AllIsShown (lists_of v) marks

-- the one of these in which searches go
abbrev pub searched_of : Responses → Option Responses → Responses
searched_of whole None = whole
searched_of whole (Some thinned) = thinned
