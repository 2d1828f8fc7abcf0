-- What falls along no edge falls along no list.
use Rattle.std.proofs.Common.{subst}
use Rattle.order_graph.specs.Lists.{lists_of}
use Rattle.level_search.specs.StrongComponents.{HasValues, rank}
use Rattle.witness_order.proofs.Followed.{known_below}
use Rattle.level_search.proofs.OnCycles.{climbs}
use Rattle.level_search.proofs.components.tested.is_right.Goals as goal

pub returns : goal.returns
returns c = λ right. record {
  values = subst (λ n. HasValues n c.args.guess.now) c.elements-elements.ensures.value
      (c.has_values.ensures c.if-not-has_values.false);
  climbs = climbs (lists_of c.args.graph.now) (rank c.args.guess.now)
      (λ l j x y first second. c.note_all_edges.ensures.climbs c.if-not-note_all_edges.false x y
      (known_below c.args.graph.now c.elements-elements.ensures.proper l j x first)
      (record { list = l; place = j; first = first; second = second }));
  tested = c.are_tested.ensures right;
}
