-- Lists of numbered elements, and when one element stands before another in some list.
use Rattle.std.specs.Prelude.{ℕ, ◌<◌, List, length}
use Rattle.specification.specs.Responses.{Responses}
use Rattle.order_graph.specs.Lists.{lists_of, Stands}

-- the numbers of the elements are those below `elements`
pub record Graph : Type 0 where
  pub elements : ℕ
  pub rows : List (List ℕ)

-- the responses by numbers
abbrev pub graph_of : Responses → Graph
graph_of v = record { elements = length v.elements; rows = lists_of v }

-- some list has a at a lesser place than b
pub record Before (rows : List (List ℕ)) (a b : ℕ) : Type 0 where
  pub list : ℕ
  pub place : ℕ
  pub later : ℕ
  pub in_order : place < later
  pub first : Stands rows list place a
  pub second : Stands rows list later b
