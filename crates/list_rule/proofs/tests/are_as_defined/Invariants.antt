use Rattle.element_numbers.specs.Cuts.{rows_of}
use Rattle.list_rule.specs.Judging.{IsRuleOf}
use Rattle.list_rule.proofs.tests.are_as_defined.Given as goal

abbrev pub invariant-loop-code : goal.invariant-loop-code
invariant-loop-code l = IsRuleOf 5 (rows_of l.lists) l.rule
