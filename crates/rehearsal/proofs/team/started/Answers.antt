use Rattle.std.proofs.Common.{arith, ◌≡◌, ◌<◌, ◌≤◌, ◌+◌, ℕ, List, ◌++◌, map, length, vec_len, sym, ap}
use Rattle.std.proofs.Common.{length-append, eq-eqb, ne_eqb}
use Rattle.std.proofs.lemmas.List.{length-map}
use Rattle.std.specs.declared.thread.PromisedHandle.{PromisedHandle}
use Rattle.sessions.specs.Shown.{PassShown}
use Rattle.rehearsal.specs.declared.recorder.Told.{Told}
use Rattle.rehearsal.specs.declared.recorder.Replayed.{Replayed}
use Rattle.rehearsal.proofs.team.started.Goals as goal

pub returns-in-Err-clause-first : goal.returns-in-Err-clause-first
returns-in-Err-clause-first g c = (c.starts.passes.items, c.starts.invariant.passes)

pub returns-clause-first : goal.returns-clause-first
returns-clause-first g c = (c.starts.passes.items, c.starts.invariant.passes)
