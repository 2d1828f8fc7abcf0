-- What is left reads as the responses of which some are empty.
use Rattle.std.proofs.Common.{◌≡◌, ℕ, List, sym, ◌∙◌, subst}
use Rattle.std.proofs.lemmas.Result.{IfOk-weaker}
use Rattle.events.specs.Names.{NameBytes}
use Rattle.events.specs.Operation.{Operation}
use Rattle.specification.specs.Responses.{Responses}
use Rattle.element_numbers.specs.Cuts.{rows_of}
use Rattle.order_graph.specs.Kept.{responses_kept}
use Rattle.order_graph.proofs.Emptied.{AreEmptied, are-emptied}
use Rattle.order_graph.proofs.order_graph.OrderGraph.emptied.Goals.{In_ok-places}
use Rattle.order_graph.proofs.order_graph.OrderGraph.emptied.Goals as goal

are-lent : (c : In_ok-places) → AreEmptied c.args.self.now c.args.marks.now c.in_ok-names.names.items
    c.in_ok-shown.shown.items (rows_of c.in_ok-places.places)
are-lent c =
    let g = c.self.inside in
    let rows : List (List ℕ) = rows_of g.places in
    let listed = c.self.invariant.listed in
    let names : c.in_ok-names.names.items ≡ g.names.items =
    c.in_ok-names.ensures.items ∙ c.as_slice.ensures.value in
    let shown : c.in_ok-shown.shown.items ≡ g.shown.items =
    c.in_ok-shown.ensures.items ∙ c.as_slice-2.ensures.value in
    let emptied = are-emptied g.names.items g.shown.items rows c.args.marks.now listed.proper listed.few listed.lists_are
    listed.count in
    subst (λ (w : Responses). AreEmptied w c.args.marks.now c.in_ok-names.names.items c.in_ok-shown.shown.items
    (rows_of c.in_ok-places.places)) c.self.view_is
    (subst (λ (l : List NameBytes). AreEmptied (responses_kept g.names.items g.shown.items rows) c.args.marks.now l
    c.in_ok-shown.shown.items (rows_of c.in_ok-places.places)) (sym names)
    (subst (λ (l : List Operation). AreEmptied (responses_kept g.names.items g.shown.items rows)
    c.args.marks.now g.names.items l (rows_of c.in_ok-places.places)) (sym shown)
    (subst (λ (rs : List (List ℕ)). AreEmptied (responses_kept g.names.items g.shown.items rows)
    c.args.marks.now g.names.items g.shown.items rs) (sym c.in_ok-places.ensures.rows) emptied)))

pub with_spots-requires : goal.with_spots-requires
with_spots-requires c =
    let emptied = are-lent (goal.at.with_spots-requires c).In_ok-places in
    record {
      proper = emptied.proper;
      few = emptied.few;
      places_cut = c.in_ok-places.ensures.cut;
      lists_are = emptied.lists_are;
      count = emptied.count;
    }

pub returns : goal.returns
returns c =
    let emptied = are-lent (goal.at.returns c).In_ok-places in
    IfOk-weaker c.with_spots.result _ _ (λ w is. is ∙ emptied.emptied_is) c.with_spots.ensures
