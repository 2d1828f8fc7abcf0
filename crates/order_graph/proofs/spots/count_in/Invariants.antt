use Rattle.std.proofs.Common.{◌≡◌, ◌≤◌, ℕ, length, take}
use Rattle.order_graph.specs.Spots.{spots_in}
use Rattle.order_graph.proofs.spots.count_in.Given as goal

abbrev pub invariant-loop-y : goal.invariant-loop-y
invariant-loop-y l = record {
  counted : (list : ℕ) → l.count ≡ length (spots_in list 0 (take l.y-index l.row) l.x);
  few : l.count ≤ l.y-index;
}
