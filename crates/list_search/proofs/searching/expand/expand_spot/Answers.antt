use Rattle.std.proofs.Common.{sym}
use Rattle.order_graph.specs.Lists.{lists_of, Stands}
use Rattle.list_search.specs.Graph.{Before}
use Rattle.list_search.specs.Progress.{IsAfter}
use Rattle.order_graph.proofs.AllSpots.{spots_sound}
use Rattle.list_search.proofs.Growth.{grows_weaker}
use Rattle.list_search.proofs.searching.expand.expand_spot.Goals as goal

pub sweep-requires-clause-inside : goal.sweep-requires-clause-inside
sweep-requires-clause-inside c =
    (spots_sound (lists_of c.args.graph.now) c.args.x c.args.i c.in-Some.spot (sym c.in-Some.ensures)).within

pub returns-in-Some-clause-grows : goal.returns-in-Some-clause-grows
returns-in-Some-clause-grows c =
    let rows = (lists_of c.args.graph.now) in
    let spot = c.in-Some.spot in
    let here : Stands rows spot.list spot.place c.args.x =
    spots_sound rows c.args.x c.args.i spot (sym c.in-Some.ensures) in
    grows_weaker (IsAfter rows spot.list spot.place) (Before rows c.args.x) c.args.element c.args.state.now
    c.sweep.new.state
    (λ z after. record {
      list = spot.list;
      place = spot.place;
      later = after.later;
      in_order = after.in_order;
      first = here;
      second = after.stands;
    })
    c.sweep.ensures.grows
