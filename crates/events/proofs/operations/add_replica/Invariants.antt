use Rattle.std.proofs.Common.{◌≡◌, ◌++◌, map}
use Rattle.events.specs.Operations.{numbers_from}
use Rattle.events.proofs.operations.add_replica.Given as goal

abbrev pub invariant-loop-i : goal.invariant-loop-i
invariant-loop-i l =
    l.names.items ≡ l.fn.names.items ++ map (λ n. record { replica = l.r; n = n }) (numbers_from 1 l.i)
