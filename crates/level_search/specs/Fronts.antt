-- What holds while a table is made: of the rows so far, and of what is known of a list up to one of its
-- places.
use Rattle.std.specs.Prelude.{◌≡◌, ℕ, ◌<◌, ◌≤◌, ◌+◌, ◌↔◌, ◌⊎◌, Some, List, length, slice_get, vec_len}
use Rattle.std.specs.Prelude.{Contains}
use Rattle.order_graph.specs.Lists.{BeforeIn, Stands}
use Rattle.order_graph.specs.declared.spot.Spot.{Spot}
use Rattle.bit_tables.specs.Sets.{Has, room}
use Rattle.bit_tables.specs.Lists.{HaveWidth, row_of}
use Rattle.level_search.specs.declared.before_table.front.Front.{Front}

-- one of the lists before l has a at a lesser place than b
abbrev pub IsShownBelow : List (List ℕ) → ℕ → ℕ → ℕ → Type 0
IsShownBelow lists l a b = (m : ℕ) × (m < l) × BeforeIn lists m a b

-- among its first j places list l has a at a lesser place than b
pub record IsShownTo (lists : List (List ℕ)) (l j a b : ℕ) : Type 0 where
  pub place : ℕ
  pub later : ℕ
  pub in_order : place < later
  pub within : later < j
  pub first : Stands lists l place a
  pub second : Stands lists l later b

-- the rows have what the lists before l show, and what the first j places of list l show
pub record AreNotedTo (lists : List (List ℕ)) (l j : ℕ) (rows : List (List ℕ)) : Type 0 where
  pub sound : (a b : ℕ) → b < length rows → Has (row_of rows b) a
      → IsShownBelow lists l a b ⊎ IsShownTo lists l j a b
  pub below : (a b : ℕ) → b < length rows → IsShownBelow lists l a b → Has (row_of rows b) a
  pub here : (a b : ℕ) → b < length rows → IsShownTo lists l j a b → Has (row_of rows b) a

-- x is among the first j places of list l
pub record StandsTo (lists : List (List ℕ)) (l j x : ℕ) : Type 0 where
  pub place : ℕ
  pub early : place < j
  pub stands : Stands lists l place x

-- x stands in the list before list l, at a place below `next`
pub record StandsBack (lists : List (List ℕ)) (l next x : ℕ) : Type 0 where
  pub list : ℕ
  pub is_before : list + 1 ≡ l
  pub place : ℕ
  pub early : place < next
  pub stands : Stands lists list place x

-- there is a row for each element, with a bit for each
pub record IsSized (rows : List (List ℕ)) (f : Front) : Type 0 where
  pub places : vec_len f.last ≡ length rows
  pub width : HaveWidth (length f.before) rows
  pub room : length rows ≤ room f.before

-- where an element stood last, it stands
abbrev pub AreLast : List (List ℕ) → List Spot → Type 0
AreLast lists last = (x : ℕ) (s : Spot) → slice_get last x ≡ Some s → s.list < 4294967295
    → Stands lists s.list s.place x

-- the lists before l are noted
pub record IsBetween (lists : List (List ℕ)) (l : ℕ) (rows : List (List ℕ)) (f : Front) : Type 0 where
  pub sized : IsSized rows f
  pub noted : AreNotedTo lists l 0 rows
  pub last : AreLast lists f.last.items

-- the lists before l are noted, and the first j places of list l
pub record IsFront (lists : List (List ℕ)) (l j : ℕ) (rows : List (List ℕ)) (f : Front) : Type 0 where
  pub sized : IsSized rows f
  pub noted : AreNotedTo lists l j rows
  pub last : AreLast lists f.last.items
  pub before : (x : ℕ) → Has f.before x ↔ StandsTo lists l j x
  pub fresh : (x : ℕ) → Contains f.fresh.items x → Has f.before x
  pub known : (p x : ℕ) → p < j → Stands lists l p x → Contains f.fresh.items x ⊎ StandsBack lists l f.next x
