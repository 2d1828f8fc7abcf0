use Rattle.std.proofs.Common.{◌≡◌, ◌∙◌, ℕ, List, length, ap, sym, subst}
use Rattle.specification.specs.Conflict.{AreLeastSteps, Step}
use Rattle.level_search.specs.Steps.{AreStepsOf}
use Rattle.level_search.proofs.StepsRound.{least_steps_of_ring}
use Rattle.order_graph.specs.Lists.{lists_of}
use Rattle.list_search.specs.Rings.{IsRing}
use Rattle.level_search.proofs.ThinnedLists.{first-ring-whole, shortest-thinned}
use Rattle.level_search.proofs.cycles.least_cycle_from.Goals as goal

pub least_ring-requires-clause-least : goal.least_ring-requires-clause-least
least_ring-requires-clause-least c =
    shortest-thinned c.args.graph.now c.args.searched.now c.requires.thin c.elements.ensures.proper c.args.k
    c.requires.shortest

pub steps_of-requires-clause-ring : goal.steps_of-requires-clause-ring
steps_of-requires-clause-ring c =
    let first =
    first-ring-whole c.args.graph.now c.args.searched.now c.requires.thin c.args.k c.in_ok-ring.ring.elements.items
    c.in_ok-ring.ensures.first in
    subst (IsRing (lists_of c.args.graph.now)) (sym c.deref.ensures.value) first.is_ring

pub returns-clause-steps : goal.returns-clause-steps
returns-clause-steps c =
    let v = c.args.graph.now in
    let numbers : List ℕ = c.in_ok-ring.ring.elements.items in
    let steps : List Step = c.in_ok-steps.steps.items in
    let same : c.deref.result.now ≡ numbers = c.deref.ensures.value in
    let made = c.in_ok-steps.ensures in
    let first =
    first-ring-whole v c.args.searched.now c.requires.thin c.args.k numbers c.in_ok-ring.ensures.first in
    let count : length steps ≡ length numbers = made.count ∙ ap length same in
    let each : AreStepsOf v numbers steps = rw same at made.steps in
    let least : AreLeastSteps v steps =
    least_steps_of_ring v c.elements.ensures.proper c.args.k numbers steps c.requires.shortest first
    count each in
    rw c.from_items.ensures (least, count ∙ first.count)
