-- How a search goes, over a table or over the lists, and what it writes on.
use Rattle.std.specs.Prelude.{IfSome, length}
use Rattle.specification.specs.Responses.{Responses}
use Rattle.order_graph.specs.Lists.{lists_of}
use Rattle.list_search.specs.Clean.{IsReady}
use Rattle.level_search.specs.Balls.{FitsSets}
use Rattle.level_search.specs.LowerBounds.{AreLowerBounds}
use Rattle.level_search.specs.Tables.{IsBeforeTable}
use Rattle.level_search.specs.declared.ways.Way.{Way}
use Rattle.level_search.specs.declared.ways.Room.{Room}

-- where there is a table, it is that of these responses; and no cycle is shorter than the lower bounds say
pub record IsWay (v : Responses) (way : Way) : Type 0 where
  pub table : IfSome way.table (λ t. IsBeforeTable (length v.elements) (lists_of v) t)
  pub lower_bounds : AreLowerBounds (lists_of v) way.lower_bounds.items

-- searches of these responses may write on it
pub record FitsRoom (v : Responses) (room : Room) : Type 0 where
  pub sets : FitsSets (length v.elements) room.sets
  pub scratch : IsReady room.scratch v
