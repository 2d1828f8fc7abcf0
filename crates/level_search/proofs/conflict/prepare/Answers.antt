-- The core has no more elements than the whole, and than there are places.
use Rattle.std.proofs.Common.{◌≡◌, ◌<◌, ◌≤◌, ℕ, List, length, ◌∙◌, ap, sym, subst, arith}
use Rattle.std.specs.Prelude.{All}
use Rattle.std.proofs.lemmas.List.{length-map}
use Rattle.specification.specs.Responses.{Responses, place_count}
use Rattle.order_graph.specs.Kept.{names_at}
use Rattle.order_graph.specs.Lists.{lists_of}
use Rattle.list_search.proofs.Joining.{name}
use Rattle.level_search.specs.Sources.{MeetsCycles}
use Rattle.level_search.specs.Thinned.{searched_of, IsThinned}
use Rattle.level_search.specs.Ways.{IsWay}
use Rattle.level_search.proofs.ThinnedLists.{searched-thinned, thinned-elements, thinned-places}
use Rattle.level_search.proofs.Placed.{narrowed-places}
use Rattle.level_search.proofs.conflict.prepare.Goals as goal

pub returns : goal.returns
returns c =
    let v : Responses = c.args.graph.now in
    let core = c.in_ok-core.ensures in
    let numbers : List ℕ = c.in_ok-core.core.elements.items in
    let whole : Responses = c.in_ok-core.core.graph in
    let size : length whole.elements ≡ length numbers =
    ap (λ (w : Responses). length w.elements) core.graph ∙ length-map numbers (name v) in
    let fewer : place_count whole ≤ place_count v =
    subst (λ (w : Responses). place_count w ≤ place_count v) (sym core.graph)
    (narrowed-places v (names_at v.elements numbers)) in
    let part : Responses = searched_of whole c.in_ok-core.core.thinned in
    let here : c.searched-part.result.now ≡ part = c.searched-part.ensures in
    let thin : IsThinned whole part = searched-thinned whole c.in_ok-core.core.thinned core.thin in
    let left : length part.elements ≡ length numbers =
    ap (λ l. length l) (thinned-elements whole part thin) ∙ size in
    record {
      proper = c.elements.ensures.proper;
      core = core.elements;
      part = core.graph;
      part_proper = c.elements-2.ensures.proper;
      thin = thin;
      way = subst (λ (w : Responses). IsWay w c.in_ok-way-2.way) here c.in_ok-way-2.ensures;
      elements_few = rw left core.few.0;
      shown_few = rw left core.few.1;
      places_few = omega (arith, fewer, thinned-places whole part thin);
      sources_few =
          subst (λ (w : Responses). length c.in_ok-sources.sources.items ≤ length w.elements) here
          c.in_ok-sources.ensures.count;
      known =
          subst (λ (w : Responses). All (λ x. x < length w.elements) c.in_ok-sources.sources.items) here
          c.in_ok-sources.ensures.known;
      met =
          subst (λ (w : Responses). MeetsCycles (lists_of w) (length w.elements)
          c.in_ok-sources.sources.items) here c.in_ok-sources.ensures.met;
    }
