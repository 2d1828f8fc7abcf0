-- What is found in the part that is searched is so in the whole.
use Rattle.std.proofs.Common.{◌≡◌, length}
use Rattle.std.specs.Prelude.{sum_by}
use Rattle.specification.specs.Responses.{Responses, place_count}
use Rattle.order_graph.specs.Lists.{lists_of}
use Rattle.order_graph.proofs.Shown.{lists-total}
use Rattle.level_search.specs.Conflicts.{searched_in}
use Rattle.level_search.proofs.ThinnedLists.{least-whole}
use Rattle.level_search.proofs.Placed.{within-searches}
use Rattle.level_search.proofs.conflict.found_in.Goals as goal

pub returns : goal.returns
returns c =
    let v : Responses = c.args.graph.now in
    let is = c.requires.prepared in
    let part : Responses = searched_in c.args.prepared.core in
    let total : sum_by (λ r. length r) (lists_of part) ≡ place_count part = lists-total part in
    record {
      proper = is.proper;
      core = is.core;
      part = is.part;
      part_proper = is.part_proper;
      thin = is.thin;
      way = is.way;
      least =
          least-whole c.args.prepared.core.graph part is.thin is.part_proper c.args.searched.least
          c.requires.least;
      looked = c.requires.looked;
      few = within-searches v _ _ _ _ is.elements_few is.shown_few
          (rw total is.places_few) c.requires.looked;
      elements_few = is.elements_few;
      places_few = is.places_few;
      known = is.known;
      met = is.met;
    }
