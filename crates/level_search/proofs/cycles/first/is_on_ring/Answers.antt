-- A search under a bound of one more than the shortest length tells.
use Rattle.std.proofs.Common.{◌≡◌, ◌∙◌, Bool, true, length, sym, arith, subst}
use Rattle.std.specs.Prelude.{◌↔◌}
use Rattle.order_graph.specs.Lists.{lists_of}
use Rattle.list_search.specs.Walks.{HasCycle}
use Rattle.level_search.proofs.FoundLooks.{looked-up, ring-looks}
use Rattle.level_search.proofs.Rounds.{ring-told}
use Rattle.level_search.proofs.ShortestFew.{shortest-fits}
use Rattle.level_search.proofs.cycles.first.is_on_ring.Goals as goal

pub overflow_add-bound : goal.overflow_add-bound
overflow_add-bound c =
    omega (arith, shortest-fits c.args.graph.now c.elements.ensures.proper c.args.k c.requires.least)

pub returns-clause-answer : goal.returns-clause-answer
returns-clause-answer c =
    subst (λ (b : Bool). (b ≡ true) ↔ HasCycle (lists_of c.args.graph.now) c.args.element c.args.k)
    (sym c.is_some.ensures)
    (ring-told c.args.graph.now c.elements.ensures.proper c.args.k c.args.element
    c.search_through.new.bound.least c.search_through.result c.requires.least c.requires.known
    c.search_through.ensures.reads c.search_through.ensures.answer)

pub returns-clause-forward : goal.returns-clause-forward
returns-clause-forward c =
    looked-up (length c.args.graph.now.elements) (lists_of c.args.graph.now) c.args.element
    c.search_through.new.bound.least c.search_through.new.room.sets c.search_through.result
    c.args.looked.now c.search_through.new.looked c.search_through.ensures.looks
    (omega (arith, c.count.ensures))

pub returns-clause-found : goal.returns-clause-found
returns-clause-found c = λ told.
    ring-looks c.args.graph.now c.elements.ensures.proper c.args.k c.args.element
    c.search_through.new.bound.least c.search_through.new.room.sets c.search_through.result
    c.args.looked.now c.search_through.new.looked c.requires.least c.requires.known
    c.search_through.ensures.reads c.search_through.ensures.answer c.search_through.ensures.looks
    (omega (arith, c.count.ensures)) (sym told ∙ c.is_some.ensures)
