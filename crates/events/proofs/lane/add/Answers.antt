-- One lane was written, and it tells one entry more.
use Rattle.std.proofs.Common.{arith, subst, ap, ◌∙◌, ℕ, [], ◌∷◌, ◌++◌, set}
use Rattle.std.specs.Prelude.{slice_get}
use Rattle.events.specs.Lanes.{AddsEntry, AreLanesOf}
use Rattle.events.proofs.Lanes.{lanes-more}
use Rattle.events.proofs.Places.{slice_get-within}
use Rattle.events.proofs.lane.add.Goals as goal

pub returns : goal.returns
returns c = λ replicas entries e own at weight are.
    let here =
    slice_get-within c.args.lanes.now.items c.args.r c.index_mut-lane.result.now
    (omega (arith, c.args.lanes.now.ok)) c.index_mut-lane.ensures.value in
    let adds =
    subst (λ (n : ℕ). AddsEntry c.index_mut-lane.result.now n c.args.weight c.add.new.self) at
    c.add.ensures in
    subst (λ (r : ℕ). AreLanesOf replicas (entries ++ e ∷ []) (set c.args.lanes.now.items r c.add.new.self))
    own
    (lanes-more replicas entries e c.args.lanes.now.items c.args.weight c.index_mut-lane.result.now
    c.add.new.self are
    (ap (slice_get c.args.lanes.now.items) own ∙ here) weight adds)
