-- A list is no longer than all together, which fit.
use Rattle.std.proofs.Common.{◌≡◌, ℕ, List, length, sym, ◌∙◌, ap, arith}
use Rattle.std.specs.Prelude.{sum_by}
use Rattle.element_numbers.specs.Cuts.{rows_of}
use Rattle.order_graph.specs.Kept.{responses_kept}
use Rattle.order_graph.proofs.Shown.{row-le, lists-total}
use Rattle.order_graph.proofs.order_graph.OrderGraph.length.Goals as goal

pub overflow_cast-result : goal.overflow_cast-result
overflow_cast-result c =
    let g = c.self.inside in
    let rows : List (List ℕ) = rows_of g.places in
    let total : sum_by (λ r. length r) rows ≡ _ =
    ap (sum_by (λ (r : List ℕ). length r)) (sym c.self.invariant.listed.lists_are)
    ∙ lists-total (responses_kept g.names.items g.shown.items rows) in
    omega (arith, total, row-le rows c.args.list, c.self.invariant.listed.few.places, ap length c.row.ensures)
