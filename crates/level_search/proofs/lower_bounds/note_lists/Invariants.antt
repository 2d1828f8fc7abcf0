use Rattle.std.proofs.Common.{ℕ, ◌<◌}
use Rattle.order_graph.specs.Lists.{lists_of}
use Rattle.level_search.specs.LowerBounds.{IsEntered, RisesByOne}
use Rattle.level_search.proofs.lower_bounds.note_lists.Given as goal

abbrev pub invariant-loop-list : goal.invariant-loop-list
invariant-loop-list l = record {
  rises : (m : ℕ) → m < l.list → RisesByOne (lists_of l.graph) l.levels m;
  entered : (m : ℕ) → m < l.list → IsEntered (lists_of l.graph) l.levels l.entry m;
}
