use Rattle.std.proofs.Common.{◌≡◌, take}
use Rattle.order_graph.specs.Kept.{names_at}
use Rattle.order_graph.proofs.narrowing.names_kept.Given as goal

abbrev pub invariant-loop-x : goal.invariant-loop-x
invariant-loop-x l = l.some.items ≡ names_at l.names (take l.x-index l.kept)
