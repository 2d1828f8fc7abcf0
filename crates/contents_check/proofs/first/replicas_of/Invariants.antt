use Rattle.std.proofs.Common.{◌≡◌}
use Rattle.events.specs.Operations.{numbers_from}
use Rattle.contents_check.proofs.first.replicas_of.Given as goal

abbrev pub invariant-loop-r : goal.invariant-loop-r
invariant-loop-r l = l.replicas.items ≡ numbers_from 0 l.r
