use Rattle.std.proofs.Common.{ℕ, ◌<◌, Option, Some, None, List, length}
use Rattle.std.specs.Prelude.{IfNone}
use Rattle.events.specs.Names.{NameBytes}
use Rattle.specification.specs.Responses.{Responses, AreProper}
use Rattle.specification.specs.Search.{IsCycleThrough}
use Rattle.order_graph.specs.Lists.{lists_of}
use Rattle.list_search.specs.Walks.{HasCycle}
use Rattle.list_search.proofs.Joining.{no_cycle_through, search_answer}
use Rattle.list_search.proofs.searching.search.Goals as goal

pub returns-clause-answer : goal.returns-clause-answer
returns-clause-answer g c =
    search_answer c.args.graph.now c.elements-elements.ensures.proper c.args.element
    (g.B.BoundSource.last c.search_by_number.new.bound) c.search_by_number.result c.requires.element
    c.search_by_number.ensures.answer

named-none : (v : Responses) → AreProper v → (s bound : ℕ) (r : Option ℕ)
    → IfNone r (length v.elements < bound → (n : ℕ) → ¬ HasCycle (lists_of v) s n)
    → IfNone r (length v.elements < bound → (cycle : List NameBytes) → ¬ IsCycleThrough v s cycle)
named-none v proper s bound None none = λ above. no_cycle_through v proper s (none above)
named-none v proper s bound (Some m) none = none

pub returns-clause-none : goal.returns-clause-none
returns-clause-none g c =
    named-none c.args.graph.now c.elements-elements.ensures.proper c.args.element
    (g.B.BoundSource.last c.search_by_number.new.bound) c.search_by_number.result
    c.search_by_number.ensures.none
