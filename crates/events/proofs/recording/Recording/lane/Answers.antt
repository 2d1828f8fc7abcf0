-- The lanes are those of the entries, whether or not the replica is of the recording.
use Rattle.std.proofs.Common.{◌≡◌, [], ◌∙◌, ap, subst}
use Rattle.std.specs.Prelude.{MatchOption, slice_get}
use Rattle.events.specs.History.{History, stream}
use Rattle.events.specs.Lanes.{IsLaneOf}
use Rattle.events.proofs.Lanes.{lane_found}
use Rattle.events.proofs.recording.Recording.lane.Goals as goal

pub returns-clause-lane : goal.returns-clause-lane
returns-clause-lane c =
    let at = c.lane_at.ensures ∙ ap (λ lanes. slice_get lanes c.args.r) c.deref.ensures.value in
    subst (λ (h : History). MatchOption c.lane_at.result (stream h c.args.r ≡ [])
    (λ lane. IsLaneOf h.entries (stream h c.args.r) lane.now)) c.self.view_is
    (lane_found _ _ c.args.r c.lane_at.result c.self.invariant at)
