use Rattle.std.proofs.Common.{◌≡◌, ℕ, ◌+◌, ◌*◌, ◌-◌, ◌<◌, ◌≤◌, length, slice_index}
use Rattle.specification.specs.Responses.{place_count}
use Rattle.order_graph.specs.Lists.{lists_of}
use Rattle.list_search.specs.Rings.{IsLeastNext, Reaches}
use Rattle.list_search.specs.Walks.{Walk}
use Rattle.level_search.proofs.cycles.ring.ring_from.Given as goal

abbrev pub invariant-loop-i : goal.invariant-loop-i
invariant-loop-i l = record {
  count : length l.ring.items ≡ l.i;
  first : slice_index l.ring.items 0 ≡ l.element;
  last : slice_index l.ring.items (l.i - 1) ≡ l.a;
  walk : Walk (lists_of l.graph) l.element (l.i - 1) l.a;
  on : Reaches (lists_of l.graph) l.element (l.k - l.i + 1) l.a;
  chosen : (j : ℕ) → 0 < j → j < l.i
      → IsLeastNext (lists_of l.graph) l.element (l.k - j) (slice_index l.ring.items (j - 1))
      (slice_index l.ring.items j);
  looked : l.looked ≤ l.fn.looked + l.i * (place_count l.graph + length l.graph.elements);
  forward : l.fn.looked ≤ l.looked;
}
