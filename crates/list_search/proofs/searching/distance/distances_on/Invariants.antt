use Rattle.std.proofs.Common.{◌≡◌, ◌+◌, ◌-◌, ◌<◌, ◌≤◌, ◌^◌, length, sum}
use Rattle.specification.specs.Responses.{place_count}
use Rattle.list_search.specs.Graph.{graph_of}
use Rattle.list_search.proofs.Levelled.{IsLevelled}
use Rattle.list_search.proofs.Depths.{IsNoted}
use Rattle.list_search.specs.Distances.{AreReached}
use Rattle.list_search.proofs.searching.distance.distances_on.Given as goal

abbrev pub invariant-levels : goal.invariant-levels
invariant-levels l = record {
  levelled : IsLevelled (graph_of l.graph) l.element l.state l.head l.level;
  noted : IsNoted (graph_of l.graph) l.element l.limit l.level l.state l.depths;
  fits : l.level + 1 < 2 ^ 32;
  cost : l.looked + sum l.state.marks.items ≤ place_count l.graph + l.head;
  begun : l.level ≡ 0 → l.head < l.state.tail;
  expanded : 0 < l.level → 0 < l.looked;
  reached : AreReached l.limit l.depths l.state.queue.items l.state.tail;
}

abbrev pub decreases-levels : goal.decreases-levels
decreases-levels l = length l.graph.elements - l.head
