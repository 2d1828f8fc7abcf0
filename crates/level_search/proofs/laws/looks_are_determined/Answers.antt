use Rattle.level_search.proofs.laws.looks_are_determined.Goals as goal
use Rattle.level_search.proofs.OneCount as law

pub returns : goal.returns
returns c = law.looks_are_determined
