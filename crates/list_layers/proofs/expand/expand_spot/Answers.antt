use Rattle.std.proofs.Common.{◌≡◌, sym, subst}
use Rattle.order_graph.specs.Lists.{lists_of, Stands}
use Rattle.order_graph.proofs.AllSpots.{spots_sound}
use Rattle.list_search.specs.Graph.{Before}
use Rattle.list_search.specs.Progress.{IsAfter}
use Rattle.list_layers.specs.Progress.{HasSpot}
use Rattle.list_layers.proofs.Growing.{goes_weaker}
use Rattle.list_layers.proofs.expand.expand_spot.Goals as goal

pub sweep-requires-clause-inside : goal.sweep-requires-clause-inside
sweep-requires-clause-inside c =
    (spots_sound (lists_of c.args.graph.now) c.args.x c.args.i c.in-Some.spot (sym c.in-Some.ensures)).within

pub returns-in_ok-sweep-clause-goes : goal.returns-in_ok-sweep-clause-goes
returns-in_ok-sweep-clause-goes c =
    let rows = lists_of c.args.graph.now in
    let spot = c.in-Some.spot in
    let here : Stands rows spot.list spot.place c.args.x =
    spots_sound rows c.args.x c.args.i spot (sym c.in-Some.ensures) in
    goes_weaker c.args.first (IsAfter rows spot.list spot.place) (Before rows c.args.x) (λ l. l ≡ spot.list)
    (HasSpot rows c.args.x) c.args.state.now c.sweep.new.state c.args.next.now.items c.sweep.new.next.items
    (λ z after. record {
      list = spot.list;
      place = spot.place;
      later = after.later;
      in_order = after.in_order;
      first = here;
      second = after.stands;
    })
    (λ l e. (spot.place, subst (λ k. Stands rows k spot.place c.args.x) (sym e) here))
    c.in_ok-sweep.ensures.goes
