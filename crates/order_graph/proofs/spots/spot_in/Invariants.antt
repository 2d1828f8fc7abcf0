use Rattle.std.proofs.Common.{◌≡◌, ◌+◌, length, take}
use Rattle.order_graph.specs.Spots.{spots_in}
use Rattle.order_graph.proofs.spots.spot_in.Given as goal

abbrev pub invariant-loop-j : goal.invariant-loop-j
invariant-loop-j l = l.fn.i ≡ length (spots_in l.list 0 (take l.j l.row) l.x) + l.left
