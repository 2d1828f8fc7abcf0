-- Which elements stand before which in some lists, and tables of that.
use Rattle.std.specs.Prelude.{◌≡◌, ℕ, ◌<◌, ◌+◌, ◌/◌, ◌↔◌, List, length}
use Rattle.order_graph.specs.Lists.{BeforeIn}
use Rattle.bit_tables.specs.Lists.{HaveWidth, row_of}
use Rattle.bit_tables.specs.Sets.{Has}

-- some list has a at a lesser place than b
abbrev pub IsShown : List (List ℕ) → ℕ → ℕ → Type 0
IsShown lists a b = (l : ℕ) × BeforeIn lists l a b

-- the table has a row for each number below n, of those that stand before it in some list
pub record IsBeforeTable (n : ℕ) (lists rows : List (List ℕ)) : Type 0 where
  pub len : length rows ≡ n
  pub width : HaveWidth (n / 64 + 1) rows
  pub shown : (a b : ℕ) → b < n → Has (row_of rows b) a ↔ IsShown lists a b
