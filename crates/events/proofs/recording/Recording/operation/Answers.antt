-- The places kept of the replica's operations are those of its operations, and the n-th stands at n - 1.
use Rattle.std.proofs.Common.{◌≡◌, ◌∙◌, ap, sym, subst, ◌-◌}
use Rattle.std.specs.Prelude.{option_and_then, option_copied, slice_get}
use Rattle.events.specs.Operation.{Operation}
use Rattle.events.specs.History.{History}
use Rattle.events.specs.Operations.{operation, operations}
use Rattle.events.specs.Lanes.{body_at}
use Rattle.events.proofs.Lanes.{body_behind}
use Rattle.events.proofs.Places.{nth-behind}
use Rattle.events.proofs.recording.Recording.operation.Goals as goal

pub returns-in-Some : goal.returns-in-Some
returns-in-Some c =
    let entries = c.deref.ensures.value ∙ ap (λ (h : History). h.entries) c.self.view_is in
    let found = c.body_behind.ensures
    ∙ (λ j. option_and_then (body_at (entries j))
    (slice_get (c.deref-in-Some.ensures.value j) (c.name.inside.n - 1)))
    ∙ body_behind _ _ _ (c.name.inside.n - 1) c.in-Some.ensures.lane.operations in
    subst (λ (o : Operation). option_copied c.body_behind.result ≡ operation c.args.self.now o) c.name.view_is
    (found ∙ sym
    (nth-behind (operations c.args.self.now c.name.inside.replica) c.name.inside.n c.name.invariant.1))
