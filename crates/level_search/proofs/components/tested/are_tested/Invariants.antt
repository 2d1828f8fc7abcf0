use Rattle.std.proofs.Common.{ℕ, ◌<◌}
use Rattle.order_graph.specs.Lists.{lists_of}
use Rattle.level_search.specs.StrongComponents.{IsTested}
use Rattle.level_search.proofs.components.tested.are_tested.Given as goal

abbrev pub invariant-loop-x : goal.invariant-loop-x
invariant-loop-x l = (y : ℕ) → y < l.x → IsTested (lists_of l.graph) l.guess y
