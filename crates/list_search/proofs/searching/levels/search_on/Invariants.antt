use Rattle.std.proofs.Common.{◌≡◌, ◌+◌, ◌-◌, ◌*◌, ◌<◌, ◌≤◌, ◌^◌, length, sum}
use Rattle.specification.specs.Responses.{place_count}
use Rattle.list_search.specs.Graph.{graph_of}
use Rattle.list_search.proofs.Layers.{IsLayered}
use Rattle.list_search.proofs.searching.levels.search_on.Given as goal

abbrev pub invariant-levels : goal.invariant-levels
invariant-levels g l = record {
  layered : IsLayered (graph_of l.graph) l.element l.state l.head l.level;
  fits : l.level + 1 < 2 ^ 32;
  bound : g.B.BoundSource.last l.bound ≤ g.B.BoundSource.last l.fn.bound;
  reads : g.B.BoundSource.reads l.fn.bound l.bound;
  times : g.B.BoundSource.read_times l.fn.bound l.level l.bound;
  cost : l.looked + sum l.state.marks.items ≤ place_count l.graph + l.head;
  work : l.head < l.state.tail → 2 * l.level ≤ l.looked;
  begun : l.level ≡ 0 → l.head < l.state.tail;
  expanded : 0 < l.level → 0 < l.looked;
}

abbrev pub decreases-levels : goal.decreases-levels
decreases-levels g l = length l.graph.elements - l.head
