use Rattle.std.proofs.Common.{◌≡◌, ◌≤◌, length}
use Rattle.std.specs.Prelude.{All}
use Rattle.list_rule.proofs.tests.depths_of.Given as goal

abbrev pub invariant-loop-x : goal.invariant-loop-x
invariant-loop-x l = record {
  len : length l.depths.items ≡ l._x;
  most : All (λ d. d ≤ l.count) l.depths.items;
}
