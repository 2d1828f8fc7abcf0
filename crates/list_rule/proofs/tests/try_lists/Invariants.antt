use Rattle.std.proofs.Common.{◌<◌}
use Rattle.std.specs.Prelude.{All}
use Rattle.element_numbers.specs.Cuts.{IsCut, rows_of}
use Rattle.list_rule.proofs.tests.try_lists.Given as goal

abbrev pub invariant-loop-numbers : goal.invariant-loop-numbers
invariant-loop-numbers l = record {
  whole : IsCut l.rows;
  within : All (λ list. All (λ x. x < 5) list) (rows_of l.rows);
}
