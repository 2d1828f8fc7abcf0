-- One element more, along whose edges the components don't fall.
use Rattle.std.proofs.Common.{◌≤◌, inl, inr, sym, subst, arith}
use Rattle.std.proofs.lemmas.Bool.{cases_eq}
use Rattle.order_graph.specs.Lists.{lists_of}
use Rattle.witness_order.specs.Edges.{AreNeighbours}
use Rattle.level_search.specs.StrongComponents.{rank}
use Rattle.level_search.proofs.components.tested.note_all_edges.Goals as goal

pub loop-x-preserved : goal.loop-x-preserved
loop-x-preserved c = record {
  fits = c.note_edges.ensures.fits;
  links = c.note_edges.ensures.links;
  climbs = λ x y under two. elim (cases_eq x c.loop-x.x) [
    | inl same ↦
        subst (λ z. rank c.args.guess.now z ≤ rank c.args.guess.now y) (sym same)
        (c.note_edges.ensures.climbs c.if-not-note_edges.false y
        (subst (λ z. AreNeighbours (lists_of c.args.graph.now) z y) same two))
    | inr other ↦ c.loop-x.invariant.climbs x y (omega arith) two
  ];
}

pub returns-clause-climbs : goal.returns-clause-climbs
returns-clause-climbs c = λ true_is x y inside two. c.loop-x.invariant.climbs x y (omega arith) two
