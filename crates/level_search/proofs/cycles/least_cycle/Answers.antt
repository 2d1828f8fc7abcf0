-- What is shortest and least in the core is so in the whole.
use Rattle.std.proofs.Common.{sym, subst}
use Rattle.level_search.proofs.Cores.{shortest_in_core, steps_of_core}
use Rattle.level_search.specs.Thinned.{searched_of, IsThinned}
use Rattle.level_search.proofs.ThinnedLists.{searched-thinned}
use Rattle.level_search.proofs.cycles.least_cycle.Goals.{In_ok-core}
use Rattle.level_search.proofs.cycles.least_cycle.Goals as goal

pub least_cycle_from-requires-clause-shortest : goal.least_cycle_from-requires-clause-shortest
least_cycle_from-requires-clause-shortest c =
    let core = c.in_ok-core.ensures in
    shortest_in_core c.args.graph.now c.elements.ensures.proper c.in_ok-core.core.elements.items core.elements
    c.in_ok-core.core.graph core.graph c.elements-2.ensures.proper c.args.k c.requires

-- the searched graph shows what the core shows
thin-here : (c : In_ok-core) → IsThinned c.in_ok-core.core.graph
    (searched_of c.in_ok-core.core.graph c.in_ok-core.core.thinned)
thin-here c =
    searched-thinned c.in_ok-core.core.graph c.in_ok-core.core.thinned c.in_ok-core.ensures.thin

pub least_cycle_from-requires-clause-thin : goal.least_cycle_from-requires-clause-thin
least_cycle_from-requires-clause-thin c =
    subst (IsThinned c.in_ok-core.core.graph) (sym c.searched-searched.ensures)
    (thin-here (goal.at.least_cycle_from-requires-clause-thin c).In_ok-core)

pub returns : goal.returns
returns c =
    let core = c.in_ok-core.ensures in
    let are = c.in_ok-cycle.ensures.steps in (
      steps_of_core c.args.graph.now c.elements.ensures.proper c.in_ok-core.core.elements.items
          core.elements c.in_ok-core.core.graph core.graph c.elements-2.ensures.proper
          c.in_ok-cycle.cycle.steps are.0,
      are.1,
    )
