use Rattle.std.proofs.Common.{◌≡◌, ◌+◌, ◌≤◌, List, ◌++◌, map, vec_len, All}
use Rattle.std.specs.Vec.{vec_capacity}
use Rattle.rehearsal.specs.Joined.{HasJoined}
use Rattle.rehearsal.proofs.team.joined.Given as goal

-- those that are joined, and those that are left, for which there is room
abbrev pub invariant-loop-handles : goal.invariant-loop-handles
invariant-loop-handles g l =
    (done : List _) × (l.initial.handles.items ≡ done ++ l.handles.items)
    × HasJoined l.recording (map (λ h. h.promise.pass.value) done) l.back
    × (vec_len l.back.passes + vec_len l.handles ≤ vec_capacity l.back.passes)
    × All (λ h. h.promise.recording.value ≡ l.recording) l.handles.items

abbrev pub decreases-loop-handles : goal.decreases-loop-handles
decreases-loop-handles g l = vec_len l.handles
