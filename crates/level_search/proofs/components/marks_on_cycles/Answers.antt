-- Where the guess is right, those whose component has others lie on a cycle.
use Rattle.level_search.proofs.OnCycles.{shared-lies}
use Rattle.level_search.proofs.components.marks_on_cycles.Goals as goal

pub returns-clause-count : goal.returns-clause-count
returns-clause-count c = (c.in_ok-is_right.ensures c.if-not-branch.false).values.shared

pub returns-clause-marks : goal.returns-clause-marks
returns-clause-marks c = λ x inside.
    shared-lies c.args.graph.now c.elements.ensures.proper c.in_ok-guess.guess
    (c.in_ok-is_right.ensures c.if-not-branch.false) x inside
