-- The spots are those of the lists, and the lists are short.
use Rattle.std.proofs.Common.{ℕ, [], Option, List, Vec, Global, map, get_or, slice_get, sym, ◌∙◌, ap, subst}
use Rattle.std.specs.Prelude.{IfSome}
use Rattle.element_numbers.specs.Cuts.{rows_of}
use Rattle.specification.specs.Responses.{Responses}
use Rattle.order_graph.specs.Kept.{responses_kept, AreSpotsOf}
use Rattle.order_graph.specs.Lists.{lists_of}
use Rattle.order_graph.specs.Spots.{spots_of}
use Rattle.order_graph.specs.declared.spot.Spot.{Spot}
use Rattle.order_graph.proofs.Adding.{items_of}
use Rattle.order_graph.proofs.Listed.{listed-short}
use Rattle.order_graph.proofs.order_graph.OrderGraph.spot.Goals as goal

pub spot_among-requires-clause-short : goal.spot_among-requires-clause-short
spot_among-requires-clause-short c =
    let g = c.self.inside in
    let listed = c.self.invariant.listed in
    listed-short g.names.items g.shown.items (rows_of g.places) listed.proper listed.few listed.lists_are

pub returns-in-Some : goal.returns-in-Some
returns-in-Some c =
    let g = c.self.inside in
    let rows : List (List ℕ) = rows_of g.places in
    let v : Responses = responses_kept g.names.items g.shown.items rows in
    let are : AreSpotsOf rows c.in-Some.spots.items =
    subst (λ (s : Option (Vec (Vec Spot Global) Global)). IfSome s (λ lists. AreSpotsOf rows lists.items))
    c.in-Some.is c.self.invariant.spots_are in
    c.spot_at.ensures
    ∙ ap (λ (l : List (Vec Spot Global)). slice_get (get_or (map items_of l) c.args.x []) c.args.i)
    c.deref.ensures.value
    ∙ ap (λ l. slice_get l c.args.i) (are c.args.x)
    ∙ ap (λ (l : List (List ℕ)). slice_get (spots_of l c.args.x) c.args.i)
    (sym c.self.invariant.listed.lists_are)
    ∙ ap (λ (w : Responses). slice_get (spots_of (lists_of w) c.args.x) c.args.i) c.self.view_is
