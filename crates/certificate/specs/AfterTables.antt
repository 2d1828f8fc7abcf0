-- Tables of what stands after each element of some responses.
use Rattle.std.specs.Prelude.{◌≡◌, ℕ, ◌+◌, ◌/◌, ◌<◌, ◌↔◌, List, length}
use Rattle.specification.specs.Responses.{Responses}
use Rattle.order_graph.specs.Lists.{lists_of}
use Rattle.bit_tables.specs.Sets.{Has}
use Rattle.bit_tables.specs.Lists.{HaveWidth, IsShown, row_of}

-- the table has a row for each element, of those that stand after it in some response
pub record IsAfterTable (v : Responses) (rows : List (List ℕ)) : Type 0 where
  pub len : length rows ≡ length v.elements
  pub width : HaveWidth (length v.elements / 64 + 1) rows
  pub shown : (a b : ℕ) → a < length v.elements → b < length v.elements
      → Has (row_of rows a) b ↔ IsShown (lists_of v) a b
