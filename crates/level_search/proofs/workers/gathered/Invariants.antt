use Rattle.std.proofs.Common.{◌≡◌, true, false, All, length, vec_len}
use Rattle.order_graph.specs.Lists.{lists_of}
use Rattle.level_search.specs.Team.{AreLooksOfClaims, Honest}
use Rattle.level_search.proofs.workers.gathered.Given as goal

abbrev pub invariant-loop-other : goal.invariant-loop-other
invariant-loop-other l =
    (l.first.bound ≡ l.bound) × (l.first.is_first ≡ true) × (l.first.out ≡ vec_len l.others)
    × (l.first.done ≡ true) × Honest (lists_of l.graph) l.sources l.first
    × AreLooksOfClaims (length l.graph.elements) (lists_of l.graph) l.sources l.first l.looked
    × All (λ w. (w.seat.bound ≡ l.bound) × (w.seat.is_first ≡ false)
    × Honest (lists_of l.graph) l.sources w.seat × AreLooksOfClaims (length l.graph.elements)
    (lists_of l.graph) l.sources w.seat w.looked) l.others.items

abbrev pub decreases-loop-other : goal.decreases-loop-other
decreases-loop-other l = vec_len l.others
