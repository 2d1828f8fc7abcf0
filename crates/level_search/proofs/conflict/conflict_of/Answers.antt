use Rattle.std.proofs.Common.{ℕ, List, length, subst, sym}
use Rattle.specification.specs.Responses.{Responses}
use Rattle.order_graph.specs.Lists.{lists_of}
use Rattle.level_search.proofs.Cores.{least_steps, no_conflict, some_conflict}
use Rattle.level_search.proofs.Lengths.{shortest}
use Rattle.level_search.proofs.Placed.{cycle-looks-whole}
use Rattle.level_search.specs.Conflicts.{searched_in}
use Rattle.level_search.specs.Looks.{AreCycleLooks}
use Rattle.level_search.specs.Sources.{MeetsCycles}
use Rattle.level_search.specs.Thinned.{IsThinned}
use Rattle.level_search.proofs.conflict.conflict_of.Goals as goal

pub least_cycle_from-requires-clause-shortest : goal.least_cycle_from-requires-clause-shortest
least_cycle_from-requires-clause-shortest c =
    shortest c.args.found.core.graph c.args.found.least c.requires.least
    c.if-found.false

pub least_cycle_from-requires-clause-met : goal.least_cycle_from-requires-clause-met
least_cycle_from-requires-clause-met c =
    let part : Responses = c.searched.result.now in
    subst (λ (xs : List ℕ). MeetsCycles (lists_of part) (length part.elements) xs)
    (sym c.deref.ensures.value)
    (subst (λ (w : Responses). MeetsCycles (lists_of w) (length w.elements) c.args.found.sources.items)
    (sym c.searched.ensures) c.requires.met)

pub returns-then-found-clause-conflict : goal.returns-then-found-clause-conflict
returns-then-found-clause-conflict c =
    no_conflict c.args.graph.now c.args.found c.requires c.if-found.true

pub returns-clause-conflict : goal.returns-clause-conflict
returns-clause-conflict c =
    let is = c.requires in
    let made = c.in_ok-cycle.ensures.steps in (
      some_conflict c.args.graph.now c.args.found is c.if-found.false,
      least_steps c.args.graph.now c.args.found is c.in_ok-cycle.cycle.steps made.0,
      made.1,
    )

pub returns-clause-looked : goal.returns-clause-looked
returns-clause-looked c =
    let is = c.requires in
    record {
      numbers = c.args.found.core.elements.items;
      core = is.core;
      part = searched_in c.args.found.core;
      is_part =
          subst (λ (w : Responses). IsThinned w (searched_in c.args.found.core)) is.part is.thin;
      looks = is.looked;
    }

pub returns-clause-few : goal.returns-clause-few
returns-clause-few c = c.requires.few

pub returns-clause-cycle : goal.returns-clause-cycle
returns-clause-cycle c =
    let v : Responses = c.args.graph.now in
    let is = c.requires in
    let part : Responses = searched_in c.args.found.core in
    let k : ℕ = c.args.found.least in
    let looked : ℕ = c.in_ok-cycle.cycle.looked in
    let here : AreCycleLooks part k looked =
    subst (λ (w : Responses). AreCycleLooks w k looked) c.searched.ensures c.in_ok-cycle.ensures.looked in
    cycle-looks-whole part v k looked is.elements_few is.places_few here
