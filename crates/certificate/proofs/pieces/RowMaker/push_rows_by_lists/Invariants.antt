use Rattle.std.proofs.Common.{take, drop}
use Rattle.level_search.specs.Thinned.{IsThinned}
use Rattle.certificate.specs.ByRows.{AppendsRows}
use Rattle.certificate.proofs.pieces.RowMaker.push_rows_by_lists.Given as goal

abbrev pub invariant-loop-i : goal.invariant-loop-i
invariant-loop-i l = record {
  lists : IsThinned l.self.graph.now l.lists.graph;
  rows : AppendsRows l.self.graph.now l.self.k (take l.i (drop l.first l.self.graph.now.elements))
      l.fn.text.items l.text.items;
}
