use Rattle.std.proofs.Common.{◌≡◌, ℕ, ◌<◌, ◌≤◌, length, slice_index}
use Rattle.order_graph.specs.Lists.{lists_of, Stands}
use Rattle.level_search.specs.Sources.{AreFewerRanks, IsRanked, UNRANKED}
use Rattle.level_search.proofs.sources.rise_in.Given as goal

abbrev pub invariant-loop-j : goal.invariant-loop-j
invariant-loop-j l = record {
  count : length l.ranks ≡ length l.graph.elements;
  fewer : AreFewerRanks l.initial.ranks l.ranks;
  small : l.next ≤ UNRANKED;
  below : (p x : ℕ) → p < l.j → Stands (lists_of l.graph) l.list p x → IsRanked l.ranks x
      → slice_index l.ranks x < l.next;
  rise : (p q x y : ℕ) → p < q → q < l.j → Stands (lists_of l.graph) l.list p x
      → Stands (lists_of l.graph) l.list q y → IsRanked l.ranks x → IsRanked l.ranks y
      → slice_index l.ranks x < slice_index l.ranks y;
}
