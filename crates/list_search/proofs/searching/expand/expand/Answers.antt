use Rattle.std.proofs.Common.{◌<◌, ◌≤◌, ◌+◌, length, slice_index, subst, arith}
use Rattle.std.proofs.lemmas.Option.{slice_get_within}
use Rattle.order_graph.specs.Spots.{spots_of}
use Rattle.order_graph.proofs.AllSpots.{spots_complete}
use Rattle.order_graph.specs.Lists.{lists_of}
use Rattle.list_search.proofs.searching.expand.expand.Goals as goal

pub returns-clause-expanded : goal.returns-clause-expanded
returns-clause-expanded c = λ l p stands.
    let rows = (lists_of c.args.graph.now) in
    let among = spots_complete rows c.args.x l p stands in
    let within : among.at < length (spots_of rows c.args.x) =
    slice_get_within (spots_of rows c.args.x) among.at among.spot among.get in
    let done = c.loop-i.invariant.mark among.at among.spot (omega arith) among.get in
    let at_list : slice_index c.loop-i.state.marks.items l ≤ among.spot.place + 1 =
    subst (λ i. slice_index c.loop-i.state.marks.items i ≤ among.spot.place + 1) among.list_is done in
    let same = among.place_is in
    omega arith
