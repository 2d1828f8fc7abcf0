use Rattle.std.proofs.Common.{◌≡◌, ◌-◌, ◌≤◌, ◌++◌, take, length}
use Rattle.specification.specs.Elements.{numbers_in}
use Rattle.element_numbers.proofs.places.add_numbers.Given as goal

abbrev pub invariant-runs : goal.invariant-runs
invariant-runs l = record {
  within : l.i ≤ length l.response;
  numbers : l.items.items ≡ l.fn.items.items ++ numbers_in l.names (take l.i l.response);
}

abbrev pub decreases-runs : goal.decreases-runs
decreases-runs l = length l.response - l.i
