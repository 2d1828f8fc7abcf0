-- The responses as lists of the elements' numbers, list by list in the order of the operations, and what
-- stands in them.
use Rattle.std.specs.Prelude.{◌≡◌, ℕ, ◌+◌, ◌*◌, ◌<◌, ◌≤◌, List, [], length, map, min, slice_index}
use Rattle.std.specs.Prelude.{slice_index_or}
use Rattle.specification.specs.Elements.{numbers_in}
use Rattle.specification.specs.Responses.{Responses, place_count}
use Rattle.events.specs.declared.TheConstants.{MOST_REPLICAS, MOST_ENTRIES, MOST_PLACES}

-- each response, as the numbers of its names
abbrev pub lists_of : Responses → List (List ℕ)
lists_of v = map (λ r. numbers_in v.elements r.names) v.returned

-- the list with this number; the empty one past the last
abbrev pub row : List (List ℕ) → ℕ → List ℕ
row rows l = slice_index_or rows l []

-- the element x stands at place p of list l
pub record Stands (rows : List (List ℕ)) (l p x : ℕ) : Type 0 where
  pub within : p < length (row rows l)
  pub here : slice_index (row rows l) p ≡ x

-- x stands in the row at a later place than p
pub record IsBehind (r : List ℕ) (p x : ℕ) : Type 0 where
  pub later : ℕ
  pub in_order : p < later
  pub within : later < length r
  pub here : slice_index r later ≡ x

-- this list has a at a lesser place than b
pub record BeforeIn (rows : List (List ℕ)) (l a b : ℕ) : Type 0 where
  pub place : ℕ
  pub later : ℕ
  pub in_order : place < later
  pub first : Stands rows l place a
  pub second : Stands rows l later b

-- the least list that has a at a lesser place than b
pub record IsLeastList (rows : List (List ℕ)) (a b l : ℕ) : Type 0 where
  pub shows : BeforeIn rows l a b
  pub least : (m : ℕ) → BeforeIn rows m a b → l ≤ m

-- a count with one more, up to the last count
abbrev pub ticked : ℕ → ℕ
ticked n = min (n + 1) 18446744073709551615

-- the limits of a recording, over all its responses
pub record AreFew (v : Responses) : Type 0 where
  pub lists : length v.returned ≤ MOST_REPLICAS * MOST_ENTRIES
  pub places : place_count v ≤ MOST_REPLICAS * MOST_PLACES
