use Rattle.std.proofs.Common.{◌≡◌, ◌++◌, take}
use Rattle.events.specs.History.{stream}
use Rattle.sessions.specs.Prefixes.{HasPrefix}
use Rattle.sessions.specs.Replays.{operations_of}
use Rattle.sessions.specs.Shown.{mine}
use Rattle.sessions.proofs.session.Session.replay_with.Given as goal

abbrev pub invariant-loop-at : goal.invariant-loop-at
invariant-loop-at g l = record {
  begins : HasPrefix l.pass.seen l.fn.pass.seen;
  mine : mine l.pass ≡ mine l.fn.pass ++ take l.at (stream l.recording l.fn.pass.replica);
  same : l.pass ≡ record l.fn.pass { seen = l.pass.seen };
  told : g.W.Waiter.knows_of l.waiter (operations_of l.pass);
}
