use Rattle.std.proofs.Common.{inl, inr, arith}
use Rattle.std.proofs.lemmas.Result.{IfErr-weaker}
use Rattle.live_engine.proofs.Sessions.{made-of, ended-by}
use Rattle.live_engine.proofs.rehearsed.rehearsed_report.Goals as goal

pub returns : goal.returns
returns g c =
    let made = c.report_on_rehearsed.ensures in
    let ended = c.rehearse_watched-rehearsed.ensures in
    let how =
    ended-by c.args.recording.now c.rehearse_watched-rehearsed.result c.report_on_rehearsed.result
    (λ e. elim (ended.workers.0 e) [
      | inl low ↦ omega (arith, low, c.requires.workers.0)
      | inr high ↦ omega (arith, high, c.requires.workers.1)
    ]) ended.ended ended.stalled made.memory made.fault in
    record {
      ok = made-of _ c.rehearse_watched-rehearsed.result c.report_on_rehearsed.result made.ok made.fault;
      watched = made-of _ c.rehearse_watched-rehearsed.result c.report_on_rehearsed.result made.watched
          made.fault;
      fault = IfErr-weaker c.report_on_rehearsed.result _ _ (λ fault h. h.0) how;
      stalled = IfErr-weaker c.report_on_rehearsed.result _ _ (λ fault h. h.1) how;
    }
