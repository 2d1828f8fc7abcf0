use Rattle.std.proofs.Common.{◌≡◌, ℕ, ◌+◌, ◌⊎◌, ◌<◌, ◌≤◌}
use Rattle.order_graph.specs.Lists.{lists_of, Stands}
use Rattle.level_search.specs.LowerBounds.{level, rank}
use Rattle.level_search.proofs.lower_bounds.note_list.Given as goal

abbrev pub invariant-loop-j : goal.invariant-loop-j
invariant-loop-j l = record {
  near : (p x : ℕ) → p < l.j → Stands (lists_of l.graph) l.list p x → l.shown.near ≤ level l.levels x + 1;
  low : (p x : ℕ) → p < l.j → Stands (lists_of l.graph) l.list p x → 0 < level l.levels x
      → l.shown.low ≤ level l.levels x;
  next : (p x : ℕ) → p < l.j → Stands (lists_of l.graph) l.list p x → level l.levels x ≡ 0
      → rank l.levels x < l.shown.next;
  rises : (p q x y : ℕ) → p < q → q < l.j → Stands (lists_of l.graph) l.list p x
      → Stands (lists_of l.graph) l.list q y → level l.levels y ≤ level l.levels x + 1;
  entered : (p q x y : ℕ) → p < q → q < l.j → Stands (lists_of l.graph) l.list p x
      → Stands (lists_of l.graph) l.list q y → level l.levels y ≡ 0
      → ((level l.levels x ≡ 0) × (rank l.levels x < rank l.levels y)) ⊎ (l.shown.entry ≤ level l.levels x);
  falls : l.shown.entry ≤ l.fn.entry;
}
