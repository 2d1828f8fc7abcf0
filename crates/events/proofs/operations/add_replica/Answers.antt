-- One more name of the replica.
use Rattle.std.proofs.Common.{◌+◌, ◌++◌, ◌∷◌, [], map, ◌∙◌, ap, append_assoc}
use Rattle.events.specs.Operations.{numbers_from}
use Rattle.events.proofs.Numbers.{names_push}
use Rattle.events.proofs.operations.add_replica.Goals as goal

pub loop-i-preserved : goal.loop-i-preserved
loop-i-preserved c =
    let r = c.args.r in
    let i = c.loop-i.i in
    c.in_ok-push.ensures.items ∙ ap (λ l. l ++ record { replica = r; n = i + 1 } ∷ []) c.loop-i.invariant
    ∙ append_assoc c.args.names.now.items (map (λ n. record { replica = r; n = n }) (numbers_from 1 i))
    (record { replica = r; n = i + 1 } ∷ [])
    ∙ ap (λ l. c.args.names.now.items ++ l) (names_push r i)
