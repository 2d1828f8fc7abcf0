use Rattle.std.proofs.Common.{◌≡◌, map}
use Rattle.std.specs.Prelude.{flat_map}
use Rattle.events.specs.Operations.{count, numbers_from}
use Rattle.events.proofs.recording.Recording.operations.Given as goal

abbrev pub invariant-loop-r : goal.invariant-loop-r
invariant-loop-r l =
    l.names.items ≡ flat_map (λ r. map (λ n. record { replica = r; n = n }) (numbers_from 1 (count l.self r)))
    (numbers_from 0 l.r)
