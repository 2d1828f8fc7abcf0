use Rattle.std.proofs.Common.{take}
use Rattle.order_graph.proofs.NewNumbers.{AreNew}
use Rattle.order_graph.proofs.narrowing.new_numbers.Given as goal

abbrev pub invariant-loop-i : goal.invariant-loop-i
invariant-loop-i l = AreNew l.names (take l.i l.kept) l.anew.items
