use Rattle.std.proofs.Common.{◌≡◌, ◌+◌, ◌*◌, ◌<◌, ◌≤◌, ◌^◌, length}
use Rattle.order_graph.specs.Lists.{lists_of}
use Rattle.level_search.specs.Balls.{FitsSets, IsAtLevel}
use Rattle.level_search.specs.LayerSizes.{counted, set_size}
use Rattle.level_search.proofs.tabled.search_by_table.Given as goal

abbrev pub invariant-loop-level : goal.invariant-loop-level
invariant-loop-level g l = record {
  at : IsAtLevel (lists_of l.graph) l.element l.level l.sets;
  fits : FitsSets (length l.graph.elements) l.sets;
  bound : g.B.BoundSource.last l.bound ≤ g.B.BoundSource.last l.fn.bound;
  reads : g.B.BoundSource.reads l.fn.bound l.bound;
  times : g.B.BoundSource.read_times l.fn.bound l.level l.bound;
  looked : l.looked ≡ counted (2 * set_size (length l.graph.elements) l.sets.near) l.fn.looked;
  read : 0 < l.level → (l.level + 1 < g.B.BoundSource.last l.bound)
      × (g.B.BoundSource.last l.bound < 2 ^ 32);
}
