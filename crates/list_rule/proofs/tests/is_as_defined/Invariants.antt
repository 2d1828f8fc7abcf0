use Rattle.element_numbers.specs.Cuts.{rows_of}
use Rattle.list_rule.specs.Judging.{IsRuleOf}
use Rattle.list_rule.proofs.tests.is_as_defined.Given as goal

abbrev pub invariant-loop-i : goal.invariant-loop-i
invariant-loop-i l = IsRuleOf 5 (rows_of l.lists) l.rule
