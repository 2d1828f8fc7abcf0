-- How many rows of its table a search has looked at, or places and elements of the lists.
use Rattle.std.specs.Prelude.{◌≡◌, ℕ, ◌+◌, ◌*◌, ◌<◌, ◌≤◌, ◌⊎◌, Option, Some, None, List, [], ◌∷◌}
use Rattle.std.specs.Prelude.{length, min, slice_index, sum_by}
use Rattle.specification.specs.Responses.{Responses, place_count}
use Rattle.level_search.specs.Balls.{IsBall, IsInLayer}
use Rattle.list_search.specs.Graph.{Before}
use Rattle.list_search.specs.Walks.{IsShortest, NoneShorter}
use Rattle.level_search.specs.LayerSizes.{counted, layer_size, set_size}
use Rattle.level_search.specs.declared.tabled.sets.Sets.{Sets}

-- x is the first of the layer before which s stands
pub record IsFirstBehind (n : ℕ) (rows : List (List ℕ)) (sets : Sets) (s x : ℕ) : Type 0 where
  pub here : IsInLayer n sets x
  pub before : Before rows s x
  pub first : (y : ℕ) → y < x → IsInLayer n sets y → ¬ Before rows s y

-- How many of the layer after the near elements were looked at for a cycle that closes there, by a search that
-- has read its bound so many times, before each layer, and last as `low`: those up to where the cycle closes.
-- Where none is found, none where the bound forbids a cycle there; all where it forbids one after it; and where
-- it forbids neither, no element is left.
abbrev pub IsLastPart : ℕ → List (List ℕ) → ℕ → ℕ → ℕ → Sets → ℕ → Option ℕ → ℕ → Type 0
IsLastPart n rows s low times sets level (Some m) part =
    (m ≡ level + 1) × (x : ℕ) × IsFirstBehind n rows sets s x × (part ≡ layer_size (x + 1) sets) × (times ≡ m)
IsLastPart n rows s low times sets level None part =
    ((part ≡ 0) × (times ≡ level + 1) × (low ≤ times))
    ⊎ (((part ≡ layer_size n sets) × (times ≡ level + 1) × (low ≡ times + 1))
    ⊎ ((part ≡ 0) × (times ≡ level) × (times + 1 < low) × ((x : ℕ) → ¬ IsInLayer n sets x)))

-- So many looks of a search from s that has read its bound so many times, and last as `low`: two at the row of
-- each element from which fewer steps than some number lead to s, and one at those of part of the next layer.
-- `sets` are as it left them.
pub record IsCountAfter (n : ℕ) (rows : List (List ℕ)) (s low times : ℕ) (sets : Sets) (answer : Option ℕ)
    (count : ℕ) : Type 0 where
  pub level : ℕ
  pub near : IsBall rows s level sets.near
  pub reached : IsBall rows s (level + 1) sets.reached
  pub part : ℕ
  pub is_part : IsLastPart n rows s low times sets level answer part
  pub is_sum : count ≡ 2 * set_size n sets.near + part

-- so many looks of a search from s under bounds of no less than `low`: those after so many readings, by the last
abbrev pub IsCountOf : ℕ → List (List ℕ) → ℕ → ℕ → Sets → Option ℕ → ℕ → Type 0
IsCountOf n rows s low sets answer count =
    (last : ℕ) × (times : ℕ) × (low ≤ last) × IsCountAfter n rows s last times sets answer count

-- a search that has read its bound so many times, and last as `low`, has raised the count by its looks
abbrev pub HasLooked : ℕ → List (List ℕ) → ℕ → ℕ → ℕ → Sets → Option ℕ → ℕ → ℕ → Type 0
HasLooked n rows s low times sets answer old new =
    (count : ℕ) × IsCountAfter n rows s low times sets answer count × (new ≡ counted count old)

-- the looks of such a search are told by what it answers
abbrev pub LooksAreDetermined : Type 0
LooksAreDetermined = (n : ℕ) (rows : List (List ℕ)) (s low times : ℕ) (one other : Sets) (answer : Option ℕ)
    (a b : ℕ) → IsCountAfter n rows s low times one answer a → IsCountAfter n rows s low times other answer b
    → a ≡ b

-- so many looks of a search over the lists: one at each place and element at most. It has looked at two at
-- least for each element of a cycle that it found, and at one at least where a bound let it look for any.
abbrev pub IsListCount : ℕ → List (List ℕ) → ℕ → Option ℕ → ℕ → Type 0
IsListCount n rows low None count = (count ≤ sum_by (λ r. length r) rows + n) × (2 < low → 0 < count)
IsListCount n rows low (Some m) count = (count ≤ sum_by (λ r. length r) rows + n) × (2 * m ≤ count)

-- so many looks of a search over a table, or over the lists
abbrev pub IsCountBy : ℕ → List (List ℕ) → ℕ → ℕ → Sets → Option ℕ → ℕ → Type 0
IsCountBy n rows s low sets answer count =
    IsCountOf n rows s low sets answer count ⊎ IsListCount n rows low answer count

-- a search by either way has raised the count by its looks
abbrev pub HasLookedBy : ℕ → List (List ℕ) → ℕ → ℕ → Sets → Option ℕ → ℕ → ℕ → Type 0
HasLookedBy n rows s low sets answer old new =
    (count : ℕ) × IsCountBy n rows s low sets answer count × (new ≡ counted count old)

-- a search over the lists has
abbrev pub HasLookedInLists : ℕ → List (List ℕ) → ℕ → Option ℕ → ℕ → ℕ → Type 0
HasLookedInLists n rows low answer old new =
    (count : ℕ) × IsListCount n rows low answer count × (new ≡ counted count old)

-- what a search from s under bounds of no less than `low` may answer
abbrev pub IsAnswerFrom : List (List ℕ) → ℕ → ℕ → Option ℕ → Type 0
IsAnswerFrom rows s low None = NoneShorter rows s low
IsAnswerFrom rows s low (Some m) = IsShortest rows s m

-- the lengths found, with that of one search before them
abbrev pub with_answer : Option ℕ → List ℕ → List ℕ
with_answer None found = found
with_answer (Some m) found = m ∷ found

-- the looks of a search from the element at each of these places of a list, together; and the lengths that these
-- searches found, in their order
abbrev pub AreCountsAt : ℕ → List (List ℕ) → ℕ → List ℕ → List ℕ → List ℕ → ℕ → Type 0
AreCountsAt n rows low sources [] found count = (found ≡ []) × (count ≡ 0)
AreCountsAt n rows low sources (place ∷ places) found count =
    (one : ℕ) × (others : ℕ) × (sets : Sets) × (answer : Option ℕ) × (later : List ℕ)
    × IsAnswerFrom rows (slice_index sources place) low answer
    × IsCountBy n rows (slice_index sources place) low sets answer one
    × AreCountsAt n rows low sources places later others
    × (count ≡ one + others) × (found ≡ with_answer answer later)

-- a count has risen by so many looks at least, up to the last count
abbrev pub HasRisenBy : ℕ → ℕ → ℕ → Type 0
HasRisenBy looks old new = min (old + looks) 18446744073709551615 ≤ new

-- so many looks of the search for the least cycle, which has k elements: at least those of a search that finds
-- it, and at most those of six searches from each element and of one for each of the k, where a search looks
-- once at each place and element
pub record AreCycleLooks (v : Responses) (k looked : ℕ) : Type 0 where
  pub some : 2 * k ≤ looked + 1
  pub few : looked ≤ length v.elements * (6 * (place_count v + length v.elements))
      + k * (place_count v + length v.elements)
