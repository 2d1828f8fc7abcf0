-- One element more; and some element is on a shortest cycle.
use Rattle.std.proofs.Common.{ℕ, ◌+◌, ◌*◌, length, sym, subst, arith, inl, inr, ◌∙◌}
use Rattle.std.proofs.Math.Nat.{add-mul}
use Rattle.specification.specs.Responses.{place_count}
use Rattle.std.proofs.lemmas.Bool.{cases_eq, false≢true}
use Rattle.order_graph.specs.Lists.{lists_of}
use Rattle.list_search.specs.Walks.{HasCycle}
use Rattle.list_search.proofs.Joining.{shortest_of_all}
use Rattle.level_search.proofs.cycles.first.first_in_order.Goals as goal

pub loop-i-preserved : goal.loop-i-preserved
loop-i-preserved c =
    let v = c.args.graph.now in
    let i : ℕ = c.loop-i.i in
    record {
      fits = c.is_on_ring.ensures.fits;
      none = λ t low cycle. elim (cases_eq t i) [
        | inl same ↦
            absurd (false≢true (sym c.if-is_on_ring.false
            ∙ c.is_on_ring.ensures.answer.1
            (subst (λ x. HasCycle (lists_of v) x c.args.k) same cycle)))
        | inr other ↦ c.loop-i.invariant.none t (omega arith) cycle
      ];
      looked = (let one = c.is_on_ring.ensures.looked in let was = c.loop-i.invariant.looked in
          omega (arith, add-mul i 1 (2 * (place_count v + length v.elements))));
      forward = (let one = c.is_on_ring.ensures.forward in let was = c.loop-i.invariant.forward in
          omega arith);
    }

pub unreachable-requires : goal.unreachable-requires
unreachable-requires c =
    let all =
    shortest_of_all c.args.graph.now c.elements-i-end.ensures.proper c.args.k c.requires.shortest in
    let past = c.loop-i-test.false in
    let known = all.known in
    let count = c.elements-i-end.ensures.value in
    c.loop-i.invariant.none all.source (omega arith) all.cycle

pub returns-then-is_on_ring-clause-looked : goal.returns-then-is_on_ring-clause-looked
returns-then-is_on_ring-clause-looked c =
    let v = c.args.graph.now in
    let one = c.is_on_ring.ensures.looked in
    let was = c.loop-i.invariant.looked in
    omega (arith, add-mul c.loop-i.i 1 (2 * (place_count v + length v.elements)))

pub returns-then-is_on_ring-clause-found : goal.returns-then-is_on_ring-clause-found
returns-then-is_on_ring-clause-found c =
    let risen = c.is_on_ring.ensures.found c.if-is_on_ring.true in
    let was = c.loop-i.invariant.forward in
    omega arith
