use Rattle.std.proofs.Common.{◌≡◌, ◌+◌, true, false, [], All, vec_len}
use Rattle.level_search.specs.Team.{AreNumbered, IsReady}
use Rattle.shared_bound.specs.declared.TheConstants.{NO_OFFER}
use Rattle.level_search.proofs.workers.team.Given as goal

abbrev pub invariant-loop-number : goal.invariant-loop-number
invariant-loop-number l =
    (l.first.bound ≡ l.bound) × (l.first.is_first ≡ true) × (l.first.claimed ≡ []) × (l.first.offered ≡ [])
    × (l.first.low ≡ NO_OFFER) × (l.first.out ≡ vec_len l.team)
    × (l.first.shares_left + l.number ≡ l.workers)
    × (vec_len l.team + 1 ≡ l.number)
    × All (λ w. (w.seat.bound ≡ l.bound) × (w.seat.is_first ≡ false)
    × IsReady l.graph l.sources w) l.team.items
    × AreNumbered l.team.items
