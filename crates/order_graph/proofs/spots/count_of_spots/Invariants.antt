use Rattle.std.proofs.Common.{◌≡◌, length, take}
use Rattle.element_numbers.specs.Cuts.{rows_of}
use Rattle.order_graph.specs.Spots.{spots_from}
use Rattle.order_graph.proofs.spots.count_of_spots.Given as goal

abbrev pub invariant-loop-list : goal.invariant-loop-list
invariant-loop-list l = l.count ≡ length (spots_from 0 (take l.list (rows_of l.places)) l.x)
