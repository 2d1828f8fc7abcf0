-- What is turned reads as the responses in the other direction.
use Rattle.std.proofs.Common.{◌≡◌, ℕ, List, sym, ◌∙◌, subst}
use Rattle.std.proofs.lemmas.Result.{IfOk-weaker}
use Rattle.events.specs.Names.{NameBytes}
use Rattle.events.specs.Operation.{Operation}
use Rattle.specification.specs.Responses.{Responses}
use Rattle.element_numbers.specs.Cuts.{rows_of}
use Rattle.order_graph.specs.Kept.{responses_kept}
use Rattle.order_graph.proofs.Turned.{AreTurned, are-turned}
use Rattle.order_graph.proofs.order_graph.OrderGraph.turned.Goals.{In_ok-places}
use Rattle.order_graph.proofs.order_graph.OrderGraph.turned.Goals as goal

are-lent : (c : In_ok-places) → AreTurned c.args.self.now c.in_ok-names.names.items
    c.in_ok-shown.shown.items (rows_of c.in_ok-places.places)
are-lent c =
    let g = c.self.inside in
    let rows : List (List ℕ) = rows_of g.places in
    let listed = c.self.invariant.listed in
    let names : c.in_ok-names.names.items ≡ g.names.items =
    c.in_ok-names.ensures.items ∙ c.as_slice.ensures.value in
    let shown : c.in_ok-shown.shown.items ≡ g.shown.items =
    c.in_ok-shown.ensures.items ∙ c.as_slice-2.ensures.value in
    let turned = are-turned g.names.items g.shown.items rows listed.proper listed.few listed.lists_are
    listed.count in
    subst (λ (w : Responses). AreTurned w c.in_ok-names.names.items c.in_ok-shown.shown.items
    (rows_of c.in_ok-places.places)) c.self.view_is
    (subst (λ (l : List NameBytes). AreTurned (responses_kept g.names.items g.shown.items rows) l
    c.in_ok-shown.shown.items (rows_of c.in_ok-places.places)) (sym names)
    (subst (λ (l : List Operation). AreTurned (responses_kept g.names.items g.shown.items rows)
    g.names.items l (rows_of c.in_ok-places.places)) (sym shown)
    (subst (λ (rs : List (List ℕ)). AreTurned (responses_kept g.names.items g.shown.items rows)
    g.names.items g.shown.items rs) (sym c.in_ok-places.ensures.rows) turned)))

pub with_spots-requires : goal.with_spots-requires
with_spots-requires c =
    let turned = are-lent (goal.at.with_spots-requires c).In_ok-places in
    record {
      proper = turned.proper;
      few = turned.few;
      places_cut = c.in_ok-places.ensures.cut;
      lists_are = turned.lists_are;
      count = turned.count;
    }

pub returns : goal.returns
returns c =
    let turned = are-lent (goal.at.returns c).In_ok-places in
    IfOk-weaker c.with_spots.result _ _ (λ w is. is ∙ turned.turned_is) c.with_spots.ensures
