-- What stands in a list is an element's number.
use Rattle.std.proofs.Common.{◌≡◌, ℕ, ◌<◌, List, length, get_or, sym, ◌∙◌, ap, subst, arith}
use Rattle.std.specs.Prelude.{slice_get, Some}
use Rattle.std.proofs.lemmas.Grind.{common_steps}
use Rattle.std.proofs.lemmas.Option.{gets, slice_get_within, get_or_from_slice_get}
use Rattle.specification.specs.Responses.{Responses}
use Rattle.element_numbers.specs.Cuts.{rows_of}
use Rattle.order_graph.specs.Kept.{responses_kept}
use Rattle.order_graph.specs.Lists.{row, lists_of}
use Rattle.order_graph.proofs.Shown.{known-numbers}
use Rattle.order_graph.proofs.order_graph.OrderGraph.place.Goals as goal

pub returns-clause-known : goal.returns-clause-known
returns-clause-known c =
    let g = c.self.inside in
    let v : Responses = responses_kept g.names.items g.shown.items (rows_of g.places) in
    let x : ℕ = c.in_ok-x.field-0.now in
    let got : slice_get c.row.result.now c.args.j ≡ Some x = grind (arith, common_steps, gets) in
    let r : List ℕ = row (lists_of v) c.args.list in
    let list : c.row.result.now ≡ r =
    c.row.ensures ∙ ap (λ l. row l c.args.list) (sym c.self.invariant.listed.lists_are) in
    let there : slice_get r c.args.j ≡ Some x = ap (λ (l : List ℕ). slice_get l c.args.j) (sym list) ∙ got in
    let known =
    known-numbers v c.self.invariant.listed.proper c.args.list c.args.j x
    (slice_get_within r c.args.j x there) in
    subst (λ n. n < length c.args.self.now.elements) (get_or_from_slice_get r c.args.j x x there)
    (subst (λ (w : Responses). get_or r c.args.j x < length w.elements) c.self.view_is known)
