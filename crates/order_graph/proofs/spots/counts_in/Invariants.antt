use Rattle.std.proofs.Common.{◌≡◌, vec_len}
use Rattle.order_graph.proofs.spots.counts_in.Given as goal

abbrev pub invariant-loop-x : goal.invariant-loop-x
invariant-loop-x l = vec_len l.counts ≡ l.elements
