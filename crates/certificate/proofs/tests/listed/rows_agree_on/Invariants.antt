use Rattle.level_search.specs.Thinned.{IsThinned}
use Rattle.certificate.proofs.tests.listed.rows_agree_on.Given as goal

abbrev pub invariant-loop-source : goal.invariant-loop-source
invariant-loop-source l = IsThinned l.graph l.lists.graph
