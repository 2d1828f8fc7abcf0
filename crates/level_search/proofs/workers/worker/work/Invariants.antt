use Rattle.std.proofs.Common.{◌≡◌, ◌-◌}
use Rattle.level_search.specs.Team.{IsReady, SameSeat, ceiling}
use Rattle.level_search.proofs.workers.worker.work.Given as goal

abbrev pub invariant-loop-place : goal.invariant-loop-place
invariant-loop-place g l = IsReady l.graph l.sources l.worker × SameSeat l.initial.worker.seat l.worker.seat
    × (l.worker.number ≡ l.initial.worker.number)

abbrev pub decreases-loop-place : goal.decreases-loop-place
decreases-loop-place g l = l.worker.seat.bound.sources - ceiling l.worker.seat.claimed
