-- The sources and the way are those of the part that is searched.
use Rattle.std.proofs.Common.{length, subst}
use Rattle.specification.specs.Responses.{Responses}
use Rattle.order_graph.specs.Lists.{lists_of}
use Rattle.level_search.specs.Team.{AreLooksOf, IsLeastLength}
use Rattle.level_search.proofs.conflict.search_core.Goals as goal

pub found_in-requires-clause-least : goal.found_in-requires-clause-least
found_in-requires-clause-least g c =
    subst (λ (w : Responses). IsLeastLength w c.in_ok-searched.searched.least) c.searched-part.ensures
    c.in_ok-searched.ensures.least

pub found_in-requires-clause-looked : goal.found_in-requires-clause-looked
found_in-requires-clause-looked g c =
    subst (λ (w : Responses). AreLooksOf (length w.elements) (lists_of w) c.in_ok-searched.searched.least
    c.in_ok-searched.searched.looked) c.searched-part.ensures c.in_ok-searched.ensures.looked
