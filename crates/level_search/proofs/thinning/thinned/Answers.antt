use Rattle.std.proofs.Common.{ap, ◌∙◌}
use Rattle.order_graph.specs.Emptied.{emptied}
use Rattle.level_search.proofs.thinning.thinned.Goals as goal

pub returns : goal.returns
returns c = record {
  marks = c.in_ok-marks.marks.items;
  is_emptied =
      c.in_ok-part.ensures ∙ ap (emptied c.args.graph.now) c.as_slice-2.ensures.value;
  all_is_shown = c.in_ok-marks.ensures;
}
