-- Under a bound of two, or of no more than the element's lower bound, there is nothing to look for; else the
-- looks are those of one search.
use Rattle.std.proofs.Common.{refl, ◌∙◌, arith}
use Rattle.level_search.proofs.ListLooks.{counted-from, list-count, none-below-two}
use Rattle.level_search.proofs.ways.search_by_lists.Goals as goal

pub returns-then-least-le-SHORTEST-clause-answer : goal.returns-then-least-le-SHORTEST-clause-answer
returns-then-least-le-SHORTEST-clause-answer g c =
    none-below-two c.args.graph.now c.elements.ensures.proper c.args.element _
    (omega (arith, c.best-least.ensures.answer))

pub returns-then-least-le-SHORTEST-clause-looks : goal.returns-then-least-le-SHORTEST-clause-looks
returns-then-least-le-SHORTEST-clause-looks g c =
    (0, (omega arith, λ lt. omega (arith, c.best-least.ensures.answer)), refl)

pub returns-clause-looks : goal.returns-clause-looks
returns-clause-looks g c =
    let e = c.search_ready-found.ensures in (
      c.looked.result,
      rw c.looked.ensures
          (list-count c.args.graph.now _ c.search_ready-found.result _ e.looked e.expanded),
      c.add.ensures.added ∙ counted-from _ _ c.add.ensures.small,
    )
