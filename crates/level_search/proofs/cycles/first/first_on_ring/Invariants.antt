use Rattle.std.proofs.Common.{◌≡◌, ◌⊎◌, ℕ, ◌+◌, ◌*◌, ◌-◌, ◌<◌, ◌≤◌, length, slice_index}
use Rattle.order_graph.specs.Lists.{lists_of}
use Rattle.list_search.specs.Walks.{HasCycle}
use Rattle.specification.specs.Responses.{place_count}
use Rattle.level_search.specs.Looks.{HasRisenBy}
use Rattle.level_search.specs.Rounds.{FitsDistances, IsRoundOf}
use Rattle.level_search.specs.Ways.{FitsRoom}
use Rattle.level_search.proofs.cycles.first.first_on_ring.Given as goal

abbrev pub invariant-loop-i : goal.invariant-loop-i
invariant-loop-i l = record {
  fits : FitsRoom l.graph l.room;
  distances : FitsDistances l.graph l.k l.distances;
  none : (t : ℕ) → t < l.i → ¬ HasCycle (lists_of l.graph) t l.k;
  found : (l.least ≡ length l.graph.elements) ⊎ HasCycle (lists_of l.graph) l.least l.k;
  round : (j t : ℕ) → j < l.i
      → IsRoundOf (lists_of l.graph) (slice_index l.sources j) l.k t → l.least ≤ t;
  turns : l.i ≤ length l.sources;
  looked : l.looked ≤ l.fn.looked + l.i * (6 * (place_count l.graph + length l.graph.elements));
  forward : l.fn.looked ≤ l.looked;
  searched : (l.least ≡ length l.graph.elements) ⊎ HasRisenBy (2 * l.k - 1) l.fn.looked l.looked;
}
