use Rattle.std.proofs.Common.{◌∙◌, refl}
use Rattle.std.proofs.lemmas.Result.{err_from_is_err_and}
use Rattle.rehearsal.proofs.Ended.{stalled-of-end}
use Rattle.rehearsal.proofs.rehearsing.rehearse_watched.Goals as goal

pub returns-in_err-passes-clause-stalled : goal.returns-in_err-passes-clause-stalled
returns-in_err-passes-clause-stalled g c =
    let p = err_from_is_err_and c.from_residual-in_err-passes.result
    c.from_residual-in_err-passes.ensures.1 in
    let opened = c.in_ok-session.field-0 in
    let replicas = c.in_ok-session.ensures.replicas ∙ c.replicas.ensures.value in
    rw (p.1, p.2)
    (λ e. stalled-of-end c.args.recording.now opened.session opened.passes.items _ _ replicas
    c.in_ok-session.ensures.passes c.in_err-passes.ensures.ended refl e)
