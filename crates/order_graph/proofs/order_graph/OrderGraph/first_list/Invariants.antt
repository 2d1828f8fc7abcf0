use Rattle.std.proofs.Common.{◌≡◌, ℕ, ◌<◌, Some, slice_get}
use Rattle.order_graph.specs.Lists.{lists_of, row, IsBehind}
use Rattle.order_graph.specs.Spots.{spots_of}
use Rattle.order_graph.specs.declared.spot.Spot.{Spot}
use Rattle.order_graph.proofs.order_graph.OrderGraph.first_list.Given as goal

abbrev pub invariant-loop-i : goal.invariant-loop-i
invariant-loop-i l = (k : ℕ) (q : Spot) → k < l.i → slice_get (spots_of (lists_of l.self) l.a) k ≡ Some q
    → ¬ IsBehind (row (lists_of l.self) q.list) q.place l.b
