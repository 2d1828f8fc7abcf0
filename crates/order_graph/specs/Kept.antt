-- What is kept of the responses, and what holds of it.
use Rattle.std.specs.Prelude.{◌≡◌, ℕ, IfSome, Option, List, Vec, [], ◌∷◌, length, map, slice_index_or}
use Rattle.std.specs.Global.{Global}
use Rattle.events.specs.Names.{NameBytes}
use Rattle.events.specs.Operation.{Operation}
use Rattle.specification.specs.Responses.{Responses, Returned, AreProper}
use Rattle.element_numbers.specs.Cuts.{rows_of, IsCut}
use Rattle.order_graph.specs.Lists.{lists_of, AreFew}
use Rattle.order_graph.specs.Spots.{spots_of}
use Rattle.element_numbers.specs.declared.rows.Rows.{Rows}
use Rattle.order_graph.specs.declared.spot.Spot.{Spot}

-- the names with these numbers
abbrev pub names_at : List NameBytes → List ℕ → List NameBytes
names_at names = map (λ x. slice_index_or names x [])

-- each operation with its list, whose numbers are read as names
abbrev pub returned_of : List NameBytes → List Operation → List (List ℕ) → List Returned
returned_of names [] rows = []
returned_of names (o ∷ os) [] = []
returned_of names (o ∷ os) (r ∷ rs) = record { by = o; names = names_at names r } ∷ returned_of names os rs

abbrev pub responses_kept : List NameBytes → List Operation → List (List ℕ) → Responses
responses_kept names shown rows = record { elements = names; returned = returned_of names shown rows }

-- the rows of places are the lists of the responses
pub record AreListed (names : List NameBytes) (shown : List Operation) (places : Rows ℕ) : Type 0 where
  pub proper : AreProper (responses_kept names shown (rows_of places))
  pub few : AreFew (responses_kept names shown (rows_of places))
  pub places_cut : IsCut places
  pub lists_are : lists_of (responses_kept names shown (rows_of places)) ≡ rows_of places
  pub count : length shown ≡ length (rows_of places)

-- each element has a list of its spots
abbrev pub AreSpotsOf : List (List ℕ) → List (Vec Spot Global) → Type 0
AreSpotsOf rows spots = (x : ℕ) → slice_index_or (map (λ s. s.items) spots) x [] ≡ spots_of rows x

-- that, and the spots are those of the places, where they are listed
pub record AreKept (names : List NameBytes) (shown : List Operation) (places : Rows ℕ)
    (spots : Option (Vec (Vec Spot Global) Global)) : Type 0 where
  pub listed : AreListed names shown places
  pub spots_are : IfSome spots (λ lists. AreSpotsOf (rows_of places) lists.items)
