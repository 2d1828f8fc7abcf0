use Rattle.std.proofs.Common.{◌≡◌, take, drop, ap, sym, subst, arith}
use Rattle.specification.specs.Responses.{Responses}
use Rattle.level_search.specs.Thinned.{IsThinned}
use Rattle.list_layers.specs.View.{LayersView}
use Rattle.certificate.specs.ByRows.{AppendsRows}
use Rattle.certificate.proofs.RowLines.{no_rows, rows_next_from}
use Rattle.certificate.proofs.pieces.RowMaker.push_rows_by_lists.Goals as goal

pub loop-i-init : goal.loop-i-init
loop-i-init c = record {
  lists = subst (λ (w : Responses). IsThinned c.args.self.now.graph.now w)
      (sym (ap (λ (w : LayersView). w.graph) c.in_ok-lists.ensures)) c.requires.listed;
  rows = no_rows c.args.self.now.graph.now c.args.self.now.k c.args.text.now.items;
}

pub loop-i-preserved : goal.loop-i-preserved
loop-i-preserved c = record {
  lists = subst (λ (w : Responses). IsThinned c.args.self.now.graph.now w) (sym c.push_listed_at.ensures.graph)
      c.loop-i.invariant.lists;
  rows = rows_next_from c.args.self.now.graph.now c.args.self.now.k c.args.first c.loop-i.i 1
      c.args.text.now.items c.loop-i.text.items c.push_listed_at.new.text.items c.loop-i.invariant.rows
      c.in_ok-push_listed_at.ensures.rows;
}

pub returns : goal.returns
returns c =
    let done : c.loop-i.i ≡ c.args.count = omega arith in
    subst (λ n. AppendsRows c.args.self.now.graph.now c.args.self.now.k
    (take n (drop c.args.first c.args.self.now.graph.now.elements)) c.args.text.now.items
    c.loop-i.text.items) done c.loop-i.invariant.rows
