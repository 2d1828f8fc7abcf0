use Rattle.std.proofs.Common.{◌≡◌, take}
use Rattle.order_graph.specs.Kept.{names_at}
use Rattle.certificate.proofs.rows.names_of.Given as goal

abbrev pub invariant-loop-x : goal.invariant-loop-x
invariant-loop-x l = l.names.items ≡ names_at l.graph.elements (take l.x-index l.numbers)
