-- The names of one more replica.
use Rattle.std.proofs.Common.{ℕ, ◌++◌, map, ◌∙◌}
use Rattle.events.specs.Operations.{count, numbers_from}
use Rattle.events.proofs.Numbers.{replicas_push}
use Rattle.events.proofs.recording.Recording.operations.Goals as goal

pub loop-r-preserved : goal.loop-r-preserved
loop-r-preserved c =
    let names =
    λ (r : ℕ). map (λ n. record { replica = r; n = n }) (numbers_from 1 (count c.args.self.now r)) in
    c.in_ok-add_replica.ensures
    ∙ (λ j. c.loop-r.invariant j ++ map (λ n. record { replica = c.loop-r.r; n = n })
    (numbers_from 1 (c.count.ensures j)))
    ∙ replicas_push names c.loop-r.r
