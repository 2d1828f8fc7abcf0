use Rattle.std.proofs.Common.{ℕ, ◌+◌, ◌*◌, ◌<◌, ◌≤◌, length}
use Rattle.specification.specs.Responses.{place_count}
use Rattle.order_graph.specs.Lists.{lists_of}
use Rattle.list_search.specs.Walks.{HasCycle}
use Rattle.level_search.specs.Ways.{FitsRoom}
use Rattle.level_search.proofs.cycles.first.first_in_order.Given as goal

abbrev pub invariant-loop-i : goal.invariant-loop-i
invariant-loop-i l = record {
  fits : FitsRoom l.graph l.room;
  none : (t : ℕ) → t < l.i → ¬ HasCycle (lists_of l.graph) t l.k;
  looked : l.looked ≤ l.fn.looked + l.i * (2 * (place_count l.graph + length l.graph.elements));
  forward : l.fn.looked ≤ l.looked;
}
