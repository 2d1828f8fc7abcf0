-- Where the source is on no shortest cycle, nothing is on one through it.
use Rattle.std.proofs.Common.{sym, ◌∙◌, arith, inr}
use Rattle.std.proofs.lemmas.Bool.{false≢true}
use Rattle.specification.specs.Responses.{Responses}
use Rattle.list_search.proofs.Joining.{shortest_of_all}
use Rattle.level_search.proofs.Rounds.{round-source}
use Rattle.level_search.proofs.cycles.first.least_of_source.Goals as goal

pub returns-then-not-is_on_ring-clause-round : goal.returns-then-not-is_on_ring-clause-round
returns-then-not-is_on_ring-clause-round c = λ t round.
    let v : Responses = c.args.graph.now in
    absurd (false≢true (sym c.if-not-is_on_ring.true
    ∙ c.is_on_ring.ensures.answer.1
    (round-source v c.elements.ensures.proper c.args.k c.args.source t c.requires.shortest round)))

pub least_round-requires-clause-shortest : goal.least_round-requires-clause-shortest
least_round-requires-clause-shortest c = λ n cycle.
    (shortest_of_all c.args.graph.now c.elements.ensures.proper c.args.k c.requires.shortest).shortest
    c.args.source n c.requires.known cycle

pub returns-clause-round : goal.returns-clause-round
returns-clause-round c = λ t round.
    let low = c.least_round.ensures.least t round in
    let least = c.min.ensures in
    omega arith

pub returns-clause-searched : goal.returns-clause-searched
returns-clause-searched c =
    let risen = c.is_on_ring.ensures.found c.if-not-is_on_ring.false in
    let up = c.least_round.ensures.forward in
    inr (omega arith)
