-- What is said of a vector's slice is said of the vector.
use Rattle.std.proofs.Common.{◌≡◌, ℕ, ◌<◌, ◌↔◌, List, Contains, length, get_or, ap, subst, arith}
use Rattle.witness_order.proofs.least_order.taken_and_edges.Goals as goal

pub taken_in_turn-requires-clause-free : goal.taken_in_turn-requires-clause-free
taken_in_turn-requires-clause-free c =
    let made = c.in_ok-successors.ensures in
    let all : length c.as_slice.result.now ≡ length c.args.graph.now.elements =
    omega (
      arith,
      ap (λ (l : List ℕ). length l) c.as_slice.ensures.value,
      made.kept.size,
      made.count,
      c.in_ok-successors.successors.heads.ok,
    ) in
    subst (λ n. (x : ℕ) → Contains c.in_ok-free.free.keys x
    ↔ ((x < n) × (get_or c.in_ok-successors.successors.indegrees.items x 0 ≡ 0))) all
    (subst (λ (l : List ℕ). (x : ℕ) → Contains c.in_ok-free.free.keys x
    ↔ ((x < length c.as_slice.result.now) × (get_or l x 0 ≡ 0))) c.as_slice.ensures.value
    c.in_ok-free.ensures)
