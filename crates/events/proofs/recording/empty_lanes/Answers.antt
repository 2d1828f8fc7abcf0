-- Each lane is that of a replica with no entry.
use Rattle.std.proofs.Common.{inl, inr, ◌∙◌, ap, sym, subst, [], arith}
use Rattle.std.specs.Prelude.{slice_get}
use Rattle.events.specs.Lanes.{IsLaneOf}
use Rattle.events.specs.declared.lane.Lane.{Lane}
use Rattle.events.proofs.Lanes.{empty_lane}
use Rattle.events.proofs.Places.{push-slice_get}
use Rattle.events.proofs.recording.empty_lanes.Goals as goal

pub loop-preserved : goal.loop-preserved
loop-preserved c = record {
  len = omega (arith, c.in_ok-push.ensures.len);
  empty = λ r lane e.
      elim (push-slice_get c.loop.lanes.items c.new.result lane r
      (ap (λ ls. slice_get ls r) (sym c.in_ok-push.ensures.items) ∙ e)) [
        | inl was ↦ c.loop.invariant.empty r lane was
        | inr is ↦ subst (λ (l : Lane). IsLaneOf [] [] l) (sym is.1)
            (empty_lane c.new.result c.new.ensures.entries c.new.ensures.operations c.new.ensures.inserts
            c.new.ensures.places)
      ];
}
