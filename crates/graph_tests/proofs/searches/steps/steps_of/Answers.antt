use Rattle.std.proofs.Common.{ℕ, Option, subst}
use Rattle.specification.specs.Conflict.{IsConflictNumber}
use Rattle.specification.proofs.ConflictNumber.{shortest_from_number}
use Rattle.graph_tests.proofs.searches.steps.steps_of.Goals as goal

pub least-requires : goal.least-requires
least-requires g c =
    shortest_from_number c.args.graph.now c.elements.ensures.proper c.in-Some.k
    (subst (λ (k : Option ℕ). IsConflictNumber c.args.graph.now k) c.in-Some.is c.in_ok-k.ensures)
