-- What stands in a list are elements' numbers.
use Rattle.std.proofs.Common.{◌≡◌, ℕ, ◌<◌, ◌∙◌, List, length, sym, ap, subst}
use Rattle.std.specs.Prelude.{All}
use Rattle.specification.specs.Responses.{Responses}
use Rattle.element_numbers.specs.Cuts.{rows_of}
use Rattle.order_graph.specs.Kept.{responses_kept}
use Rattle.order_graph.specs.Lists.{row, lists_of}
use Rattle.order_graph.proofs.Shown.{known-numbers}
use Rattle.order_graph.proofs.order_graph.OrderGraph.list.Goals as goal

pub returns-clause-known : goal.returns-clause-known
returns-clause-known c =
    let g = c.self.inside in
    let v : Responses = responses_kept g.names.items g.shown.items (rows_of g.places) in
    let r : List ℕ = row (lists_of v) c.args.list in
    let list : c.row.result.now ≡ r =
    c.row.ensures ∙ ap (λ l. row l c.args.list) (sym c.self.invariant.listed.lists_are) in
    subst (λ (w : Responses). All (λ x. x < length w.elements) c.row.result.now) c.self.view_is
    (subst (λ (l : List ℕ). All (λ x. x < length v.elements) l) (sym list)
    (known-numbers v c.self.invariant.listed.proper c.args.list))
