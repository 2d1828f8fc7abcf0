use Rattle.std.proofs.Common.{◌≡◌, length}
use Rattle.level_search.specs.Steps.{AreStepsOf}
use Rattle.level_search.proofs.cycles.steps.steps_of.Given as goal

abbrev pub invariant-loop-i : goal.invariant-loop-i
invariant-loop-i l = record {
  count : length l.steps.items ≡ l.i;
  steps : AreStepsOf l.graph l.ring l.steps.items;
}
