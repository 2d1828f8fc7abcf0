use Rattle.std.proofs.Common.{◌≡◌, ◌++◌, take}
use Rattle.order_graph.specs.Renumbered.{numbers_left}
use Rattle.order_graph.proofs.narrowing.add_left.Given as goal

abbrev pub invariant-loop-x : goal.invariant-loop-x
invariant-loop-x l = l.items.items ≡ l.fn.items.items ++ numbers_left l.anew (take l.x-index l.row)
