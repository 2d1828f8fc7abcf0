-- The operation of a list is that of its response.
use Rattle.std.proofs.Common.{◌≡◌, sym, ◌∙◌, ap, arith}
use Rattle.std.specs.Prelude.{option_map, slice_get}
use Rattle.specification.specs.Responses.{Responses, Returned}
use Rattle.element_numbers.specs.Cuts.{rows_of}
use Rattle.order_graph.proofs.Shown.{shown_of}
use Rattle.std.proofs.lemmas.Grind.{common_steps}
use Rattle.std.proofs.lemmas.Option.{gets}
use Rattle.order_graph.proofs.order_graph.OrderGraph.shown_by.Goals as goal

pub returns : goal.returns
returns c =
    let g = c.self.inside in
    let got : c.copied.result ≡ slice_get g.shown.items c.args.list = grind (arith, common_steps, gets) in
    got ∙ sym
    (shown_of g.names.items g.shown.items (rows_of g.places) c.args.list c.self.invariant.listed.count)
    ∙ ap (λ (v : Responses). option_map (λ (r : Returned). r.by) (slice_get v.returned c.args.list))
    c.self.view_is
