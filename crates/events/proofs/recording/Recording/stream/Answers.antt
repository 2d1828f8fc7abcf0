-- The places kept of the replica are those of its entries.
use Rattle.std.proofs.Common.{◌∙◌, ap}
use Rattle.std.specs.Prelude.{option_and_then, slice_get}
use Rattle.events.specs.History.{History}
use Rattle.events.specs.Lanes.{body_at}
use Rattle.events.proofs.Lanes.{body_behind}
use Rattle.events.proofs.recording.Recording.stream.Goals as goal

pub returns-in-Some : goal.returns-in-Some
returns-in-Some c =
    let entries = c.deref.ensures.value ∙ ap (λ (h : History). h.entries) c.self.view_is in
    c.body_behind.ensures
    ∙ (λ j. option_and_then (body_at (entries j)) (slice_get (c.deref-in-Some.ensures.value j) c.args.i))
    ∙ body_behind _ _ _ c.args.i c.in-Some.ensures.lane.stream
