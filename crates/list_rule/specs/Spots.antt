-- Where numbers stand in lists.
use Rattle.std.specs.Prelude.{◌≡◌, ℕ, ◌<◌, List, [], Contains, Vec, length, map, slice_index, slice_index_or}
use Rattle.std.specs.Global.{Global}
use Rattle.bit_tables.specs.Lists.{HasInOrder, IsShown}
use Rattle.list_rule.specs.declared.spot.Spot.{Spot}

-- the list with a number
abbrev pub row : List (List ℕ) → ℕ → List ℕ
row lists l = slice_index_or lists l []

-- x stands at place p of the list l
pub record Stands (lists : List (List ℕ)) (l p x : ℕ) : Type 0 where
  pub within : p < length (row lists l)
  pub here : slice_index (row lists l) p ≡ x

-- one of the lists with these numbers has a at a lesser place than b
abbrev pub IsShownBy : List (List ℕ) → List ℕ → ℕ → ℕ → Type 0
IsShownBy lists kept a b = (l : ℕ) × Contains kept l × HasInOrder (row lists l) a b

-- the spots of a number, of which there is a vector for each number
abbrev pub spots_at : List (Vec Spot Global) → ℕ → List Spot
spots_at spots x = slice_index_or (map (λ s. s.items) spots) x []

-- a spot of x in the list, which has this number
pub record IsSpotIn (l : ℕ) (list : List ℕ) (x : ℕ) (q : Spot) : Type 0 where
  pub list_is : q.list ≡ l
  pub within : q.place < length list
  pub here : slice_index list q.place ≡ x

-- a spot of a, and a later place of its list at which b stands
pub record IsSpotBefore (lists : List (List ℕ)) (spots : List (Vec Spot Global)) (a b : ℕ) : Type 0 where
  pub spot : Spot
  pub listed : Contains (spots_at spots a) spot
  pub later : ℕ
  pub in_order : spot.place < later
  pub stands : Stands lists spot.list later b

-- These are spots of the numbers below n, all of them in the lists in which any number has one; and what any
-- list shows, these lists show.
pub record AreSpotsOf (n : ℕ) (lists : List (List ℕ)) (spots : List (Vec Spot Global)) : Type 0 where
  pub count : length spots ≡ n
  pub sound : (x : ℕ) (q : Spot) → Contains (spots_at spots x) q → Stands lists q.list q.place x
  pub whole : (x : ℕ) (q : Spot) (y p : ℕ) → Contains (spots_at spots x) q → Stands lists q.list p y
      → Contains (spots_at spots y) (record { list = q.list; place = p })
  pub shown : (a b : ℕ) → IsShown lists a b → IsSpotBefore lists spots a b
