use Rattle.element_numbers.specs.Cuts.{rows_of}
use Rattle.list_rule.specs.Judging.{IsRuleOf}
use Rattle.list_rule.proofs.tests.are_all_as_defined.Given as goal

abbrev pub invariant-loop-count : goal.invariant-loop-count
invariant-loop-count l = IsRuleOf 5 (rows_of l.lists) l.rule
