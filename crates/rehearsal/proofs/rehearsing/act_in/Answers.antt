-- What is answered at the end is what the threads told.
use Rattle.std.proofs.Common.{rules, arith, ◌≡◌, nat_eq, List, map, length, vec_len, sym, ap, subst, ◌∙◌}
use Rattle.std.proofs.lemmas.List.{length-map}
use Rattle.std.specs.declared.thread.PromisedHandle.{PromisedHandle}
use Rattle.sessions.specs.Shown.{ObserverShown, PassShown}
use Rattle.rehearsal.specs.Watched.{HasWatched}
use Rattle.rehearsal.specs.declared.recorder.Replayed.{Replayed}
use Rattle.rehearsal.specs.declared.recorder.Told.{Told}
use Rattle.rehearsal.proofs.Ended.{acted-of, ended-of, unstarted}
use Rattle.rehearsal.proofs.rehearsing.act_in.Goals as goal

pub returns-in_default-clause-ended : goal.returns-in_default-clause-ended
returns-in_default-clause-ended g c = unstarted c.args.recording.now c.args.passes.items c.requires.some

pub returns : goal.returns
returns g c =
    let pass : PromisedHandle Told Replayed → PassShown = λ p. p.promise.pass.value in
    let started = c.started-handles.result.handles in
    let some : vec_len started ≡ length (map pass started.items) =
    omega (arith, started.ok.0, length-map started.items pass) in
    let all : vec_len c.args.passes ≡ length c.args.passes.items = omega (arith, c.args.passes.ok.0) in
    let whole = c.started-handles.ensures.whole ∙ ap (λ n. nat_eq n (vec_len c.args.passes)) some
    ∙ ap (nat_eq (length (map pass started.items))) all in
    let same : c.in-Ok.watcher.promise.observer.value ≡ c.args.observer = search rules in
    record {
      acted = acted-of c.args.recording.now c.args.passes.items c.args.observer (map pass started.items)
          c.joined-back.result c.join-watched.result c.started-handles.result.is_whole c.returned.result
          c.joined-back.ensures.told c.started-handles.ensures.first whole
          (subst (λ (o : ObserverShown). HasWatched o c.join-watched.result) same c.join-watched.ensures)
          c.returned.ensures.none c.returned.ensures.back;
      ended = ended-of c.args.recording.now c.args.passes.items c.args.observer (map pass started.items)
          c.joined-back.result c.join-watched.result c.started-handles.result.is_whole c.returned.result
          c.joined-back.ensures.told c.started-handles.ensures.first whole c.returned.ensures.fault;
    }
