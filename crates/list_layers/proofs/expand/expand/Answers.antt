use Rattle.std.proofs.Common.{◌≡◌, ◌<◌, ◌≤◌, ◌+◌, Some, inl, inr, length, slice_get, slice_index, subst, ◌∙◌}
use Rattle.std.proofs.Common.{arith}
use Rattle.std.proofs.lemmas.Bool.{cases_eq}
use Rattle.std.proofs.lemmas.Option.{slice_get_within}
use Rattle.order_graph.specs.Lists.{lists_of}
use Rattle.order_graph.specs.Spots.{spots_of}
use Rattle.order_graph.proofs.AllSpots.{spots_complete}
use Rattle.list_search.specs.Graph.{Before}
use Rattle.list_layers.specs.Progress.{HasSpot}
use Rattle.list_layers.proofs.Growing.{goes_both}
use Rattle.list_layers.proofs.expand.expand.Goals as goal

pub loop-i-preserved : goal.loop-i-preserved
loop-i-preserved c =
    let rows = lists_of c.args.graph.now in
    let before = c.loop-i.invariant in
    let after = c.in_ok-expand_spot.ensures in
    record {
      marks = after.marks ∙ before.marks;
      seen = after.seen ∙ before.seen;
      good = after.good;
      goes = goes_both c.args.first (Before rows c.args.x) (HasSpot rows c.args.x) c.args.state.now
          c.loop-i.state c.expand_spot.new.state c.args.next.now.items c.loop-i.next.items
          c.expand_spot.new.next.items before.goes after.goes;
      mark = λ k q low at. elim (cases_eq k c.loop-i.i) [
        | inl e ↦ after.mark q (subst (λ i. slice_get (spots_of rows c.args.x) i ≡ Some q) e at)
        | inr other ↦
            (let was = before.mark k q (omega (arith, low, other)) at in
            let less = after.goes.falls q.list in
            omega (arith, was, less))
      ];
    }

pub returns-clause-expanded : goal.returns-clause-expanded
returns-clause-expanded c = λ l p stands.
    let rows = lists_of c.args.graph.now in
    let among = spots_complete rows c.args.x l p stands in
    let within : among.at < length (spots_of rows c.args.x) =
    slice_get_within (spots_of rows c.args.x) among.at among.spot among.get in
    let done = c.loop-i.invariant.mark among.at among.spot (omega arith) among.get in
    let at_list : slice_index c.loop-i.state.marks.items l ≤ among.spot.place + 1 =
    subst (λ i. slice_index c.loop-i.state.marks.items i ≤ among.spot.place + 1) among.list_is done in
    let same = among.place_is in
    omega arith
