use Rattle.level_search.proofs.Cores.{no_conflict, some_conflict}
use Rattle.level_search.proofs.conflict.conflict_number.Goals as goal

pub returns-then-found-clause-number : goal.returns-then-found-clause-number
returns-then-found-clause-number g c =
    no_conflict c.args.graph.now c.in_ok-found.found c.in_ok-found.ensures.least c.if-found.true

pub returns-clause-number : goal.returns-clause-number
returns-clause-number g c =
    some_conflict c.args.graph.now c.in_ok-found.found c.in_ok-found.ensures.least c.if-found.false
