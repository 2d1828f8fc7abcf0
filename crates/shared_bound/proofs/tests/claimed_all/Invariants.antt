use Rattle.std.proofs.Common.{◌≡◌}
use Rattle.shared_bound.proofs.tests.claimed_all.Given as goal

abbrev pub invariant-loop : goal.invariant-loop
invariant-loop l =
    (l.seat.bound ≡ l.fn.seat.bound) × (l.seat.is_first ≡ l.fn.seat.is_first) × (l.seat.out ≡ l.fn.seat.out)
