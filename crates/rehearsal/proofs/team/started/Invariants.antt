use Rattle.std.proofs.Common.{◌≡◌, ◌≤◌, ◌+◌, ◌++◌, map, vec_len, All}
use Rattle.std.specs.Vec.{vec_capacity}
use Rattle.sessions.specs.Replays.{operations_of}
use Rattle.rehearsal.proofs.team.started.Given as goal

-- those whose recorders are started, and those that are left, for which there is room
abbrev pub invariant-starts : goal.invariant-starts
invariant-starts g l = record {
  passes : map (λ h. h.promise.pass.value) l.handles.items ++ l.passes.items ≡ l.initial.passes.items;
  room : vec_len l.handles + vec_len l.passes ≤ vec_capacity l.handles;
  recording : All (λ h. h.promise.recording.value ≡ l.recording) l.handles.items;
  session : All (λ p. p.session ≡ l.session) l.passes.items;
  new : All (λ p. operations_of p ≡ 0) l.passes.items;
}

abbrev pub decreases-starts : goal.decreases-starts
decreases-starts g l = vec_len l.passes
