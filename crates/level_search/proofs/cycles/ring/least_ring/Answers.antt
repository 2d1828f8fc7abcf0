use Rattle.std.proofs.Common.{ℕ, ◌+◌, ◌*◌, length, arith}
use Rattle.std.proofs.lemmas.Nat.{mul-le}
use Rattle.specification.specs.Responses.{place_count}
use Rattle.list_search.specs.Graph.{graph_of}
use Rattle.list_search.proofs.Firsts.{ring_is_first}
use Rattle.list_search.proofs.Joining.{cycle-known, shortest_of_all}
use Rattle.level_search.proofs.cycles.ring.least_ring.Goals as goal

pub ring_from-requires-clause-shortest : goal.ring_from-requires-clause-shortest
ring_from-requires-clause-shortest c = λ n cycle.
    let source = c.first_element-element.ensures in
    (shortest_of_all c.args.graph.now c.elements.ensures.proper c.args.k c.requires.least).shortest
    c.first_element-element.result n source.known cycle

pub returns-clause-first : goal.returns-clause-first
returns-clause-first c =
    let source = c.first_element-element.ensures in
    let ring = c.in_ok-elements.ensures in
    ring_is_first (graph_of c.args.graph.now)
    (cycle-known c.args.graph.now c.elements.ensures.proper) c.args.k
    c.first_element-element.result c.in_ok-elements.elements.items
    source.cycle source.lowest ring.count ring.first ring.chosen

pub returns-clause-looked : goal.returns-clause-looked
returns-clause-looked c =
    let v = c.args.graph.now in
    let looks : ℕ = place_count v + length v.elements in
    let none = c.new-looked.ensures in
    let risen = c.first_element-element.ensures.found in
    let up = c.in_ok-elements.ensures.forward in
    let searches = c.first_element-element.ensures.looked in
    let nexts = c.in_ok-elements.ensures.looked in
    let known = c.first_element-element.ensures.known in
    let count = c.count.ensures in
    record {
      some = omega arith;
      few = omega (
        arith,
        mul-le (c.first_element-element.result + 1) (6 * looks) (length v.elements) (6 * looks)
            (omega arith) (omega arith),
      );
    }
