use Rattle.std.proofs.Common.{◌≡◌, ℕ, ◌<◌, slice_index, length}
use Rattle.order_graph.specs.Lists.{lists_of, row}
use Rattle.list_search.proofs.searching.start.reset_marks.Given as goal

abbrev pub invariant-loop-l : goal.invariant-loop-l
invariant-loop-l l = (k : ℕ) → k < l.l → slice_index l.marks k ≡ length (row (lists_of l.graph) k)
