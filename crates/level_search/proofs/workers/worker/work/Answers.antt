use Rattle.std.proofs.Common.{◌∙◌}
use Rattle.level_search.proofs.Teams.{claimed_one, claimed_then, fewer_left, finished, looks_claimed}
use Rattle.level_search.proofs.workers.worker.work.Goals as goal

pub loop-place-smaller : goal.loop-place-smaller
loop-place-smaller g c =
    let some = c.in-Some.ensures.some in
    let then = claimed_then _ _ _ c.in-Some.place some.1 c.search_from.ensures.seat in
    fewer_left c.loop-place.worker.seat c.search_from.new.worker.seat c.in-Some.place then.3.0 then.0 some.0
    c.in-Some.ensures.rising

pub loop-place-preserved : goal.loop-place-preserved
loop-place-preserved g c =
    let inv = c.loop-place.invariant in
    let found = c.search_from.ensures in
    let then = claimed_then _ _ _ c.in-Some.place c.in-Some.ensures.some.1 found.seat in
    let low = rw then.2 at found.falls in (
      record {
        honest =
            claimed_one _ _ _ _ c.in-Some.place inv.0.honest then.0
            (found.offers (rw then.1 inv.0.honest.offers)) low found.searched;
        fits = found.fits;
        looked =
            looks_claimed _ _ _ c.loop-place.worker.seat c.search_from.new.worker.seat c.in-Some.place _ _ _ _
            then.0 (rw then.1 at found.looks.2) low inv.0.looked found.looks.3 found.looks.4;
      },
      (then.3.0 ∙ inv.1.0, then.3.1 ∙ inv.1.1, then.3.2 ∙ inv.1.2),
      found.number ∙ inv.2,
    )

pub returns-clause-ready : goal.returns-clause-ready
returns-clause-ready g c =
    let inv = c.loop-place.invariant in
    record {
      honest = finished _ _ _ _ c.in_default.ensures.none inv.0.honest;
      fits = inv.0.fits;
      looked = rw c.in_default.ensures.none inv.0.looked;
    }
