use Rattle.std.proofs.Common.{rules, ◌≡◌, ◌≤◌, ◌<◌, ◌⊎◌, ◌↔◌, ℕ, List, All, IfOk, ◌+◌, ◌-◌, length}
use Rattle.std.proofs.Common.{slice_index_or, slice_set, sym, ap, ◌∙◌, arith}
use Rattle.events.specs.History.{SameStreams, IsLegal}
use Rattle.sessions.specs.Prefixes.{HasPrefix}
use Rattle.sessions.specs.Shown.{PassShown}
use Rattle.sessions.proofs.Lists.{prefix_through}
use Rattle.rehearsal.proofs.Passes.{AreEnded, ended_of, closes_with, first-of-set, replayed_length}
use Rattle.rehearsal.proofs.rehearsing.close.Goals.{After-end}
use Rattle.rehearsal.proofs.rehearsing.close.Goals as goal

are_ended : (c : After-end) → AreEnded c.args.session c.args.recording.now
    (slice_set c.args.passes.items 0 c.end.new.pass)
are_ended c =
    let r = c.requires.replayed in
    ended_of c.args.session c.args.recording.now r.0 c.args.passes.items c.index_mut.result.now
    c.end.new.pass c.end.new.pass.seen r.1 r.2 c.index_mut.ensures.value c.end.ensures.same
    c.end.ensures.mine

pub close-requires : goal.close-requires
close-requires c = (are_ended (goal.at.close-requires c).After-end).of_session

pub unreachable-requires : goal.unreachable-requires
unreachable-requires c =
    c.in_default.ensures.exactly (are_ended (goal.at.unreachable-requires c).After-end).all

pub returns-clause-streams : goal.returns-clause-streams
returns-clause-streams c =
    let done = are_ended (goal.at.returns-clause-streams c).After-end in
    closes_with c.args.session c.args.recording.now c.in-Ok.closed _ done c.requires.replicas
    c.in-Ok.ensures.replicas c.in-Ok.ensures.streams c.requires.legal c.replicas.ensures.legal

pub returns-clause-watched : goal.returns-clause-watched
returns-clause-watched c =
    let r = c.requires.replayed in
    let count = replayed_length c.args.recording.now r.0 c.args.passes.items r.2 in
    let some : 0 < length c.args.passes.items = omega (arith, count, r.1.some) in
    let seen =
    first-of-set (λ (p : PassShown). HasPrefix c.in-Ok.closed.entries p.seen) c.args.passes.items
    c.end.new.pass some c.in-Ok.ensures.begins in
    prefix_through c.in-Ok.closed.entries c.end.new.pass.seen c.args.observer.seen seen c.end.ensures.told
