-- How far layers have come, and what a part of the work does.
use Rattle.std.specs.Prelude.{◌≡◌, ◌≢◌, ℕ, ◌<◌, ◌≤◌, ◌⊎◌, ◌↔◌, Bool, true, false, List, AllPairs, Contains}
use Rattle.std.specs.Prelude.{length, map, replicate, slice_index, slice_index_or, vec_len}
use Rattle.std.specs.List.Sorted.{IsStrictlyIncreasing}
use Rattle.order_graph.specs.Lists.{row, Stands}
use Rattle.list_search.specs.Graph.{Graph, Before}
use Rattle.list_layers.specs.declared.state.State.{State}

-- x was entered
abbrev pub IsSeen : List Bool → ℕ → Type 0
IsSeen seen x = slice_index_or seen x false ≡ true

-- the list has x from one place on and before another
abbrev pub StandsWithin : List ℕ → ℕ → ℕ → ℕ → Type 0
StandsWithin list from to x = (j : ℕ) × (from ≤ j) × (j < to) × (slice_index list j ≡ x)

-- x stands in the list l
abbrev pub HasSpot : List (List ℕ) → ℕ → ℕ → Type 0
HasSpot lists x l = (p : ℕ) × Stands lists l p x

-- x stands after a number of the layer in some list
abbrev pub Follows : List (List ℕ) → List ℕ → ℕ → Type 0
Follows lists layer x = (c : ℕ) × Contains layer c × Before lists c x

-- a number of the layer stands in the list l
abbrev pub StandsIn : List (List ℕ) → List ℕ → ℕ → Type 0
StandsIn lists layer l = (c : ℕ) × Contains layer c × HasSpot lists c l

-- x counts, was not entered before, and meets P
pub record IsNew (P : ℕ → Type 0) (first : ℕ) (seen : List Bool) (x : ℕ) : Type 0 where
  pub counts : first ≤ x
  pub unseen : ¬ IsSeen seen x
  pub meets : P x

-- these were entered, none of them twice
pub record AreEntered (seen : List Bool) (next : List ℕ) : Type 0 where
  pub are_seen : (x : ℕ) → Contains next x → IsSeen seen x
  pub apart : AllPairs (λ x y. x ≢ y) next

-- more was entered
pub record Grows (P : ℕ → Type 0) (first : ℕ) (seen : List Bool) (next : List ℕ) (more : List Bool)
    (longer : List ℕ) : Type 0 where
  pub stays : (x : ℕ) → IsSeen seen x → IsSeen more x
  pub kept : (x : ℕ) → Contains next x → Contains longer x
  pub fresh : (x : ℕ) → Contains longer x → Contains next x ⊎ IsNew P first seen x
  pub only : (x : ℕ) → IsSeen more x → IsSeen seen x ⊎ Contains longer x
  pub entered : AreEntered seen next → AreEntered more longer

-- more was entered, and marks fell, of no other lists than those that meet T
pub record Goes (first : ℕ) (P T : ℕ → Type 0) (old : State) (next : List ℕ) (new : State) (longer : List ℕ)
    : Type 0 where
  pub grows : Grows P first old.seen.items next new.seen.items longer
  pub falls : (l : ℕ) → slice_index new.marks.items l ≤ slice_index old.marks.items l
  pub touched : (l : ℕ) → (slice_index new.marks.items l ≡ slice_index old.marks.items l) ⊎ T l

-- there is a mark for each list and a flag for each number
pub record FitsState (g : Graph) (st : State) : Type 0 where
  pub marks : vec_len st.marks ≡ length g.rows
  pub seen : vec_len st.seen ≡ g.elements

-- what counts and stands from a list's mark on was entered
pub record IsGood (g : Graph) (first : ℕ) (st : State) : Type 0 where
  pub fits : FitsState g st
  pub marks_in : (l : ℕ) → slice_index st.marks.items l ≤ length (row g.rows l)
  pub covered : (l j x : ℕ) → slice_index st.marks.items l ≤ j → Stands g.rows l j x → first ≤ x
      → IsSeen st.seen.items x

-- what counts and follows the layer, and was not entered before, in rising order
pub record IsNextLayer (lists : List (List ℕ)) (first : ℕ) (layer : List ℕ) (seen more : List Bool)
    (next : List ℕ) : Type 0 where
  pub fresh : (x : ℕ) → Contains next x → IsNew (Follows lists layer) first seen x
  pub now : (x : ℕ) → IsSeen more x ↔ (IsSeen seen x ⊎ Contains next x)
  pub all : (c x : ℕ) → Contains layer c → Before lists c x → first ≤ x → IsSeen more x
  pub rising : IsStrictlyIncreasing next

-- nothing is entered, and each mark is at its list's end
pub record IsClean (g : Graph) (st : State) : Type 0 where
  pub marks : st.marks.items ≡ map (λ r. length r) g.rows
  pub seen : st.seen.items ≡ replicate g.elements false
