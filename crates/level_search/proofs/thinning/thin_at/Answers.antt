use Rattle.std.proofs.Common.{ℕ, List, subst, arith}
use Rattle.order_graph.specs.Lists.{lists_of, row}
use Rattle.level_search.specs.Thinned.{IsHeld}
use Rattle.level_search.proofs.ThinnedLists.{thinned-one}
use Rattle.level_search.proofs.thinning.thin_at.Goals as goal

pub returns-then-is_held-clause-shown : goal.returns-then-is_held-clause-shown
returns-then-is_held-clause-shown c =
    let rows : List (List ℕ) = lists_of c.args.graph.now in
    let held : IsHeld (row rows c.args.list) (row rows c.args.last) =
    subst (λ r. IsHeld r (row rows c.args.last)) c.list-here.ensures.value
    (subst (λ r. IsHeld c.list-here.result.now r) c.list-kept.ensures.value (c.is_held.ensures c.if-is_held.true)) in
    thinned-one rows c.args.marks.now.items c.args.list c.args.last c.requires.shown held (omega (arith, c.requires.last))
    c.requires.kept

pub returns-then-is_held-2-clause-shown : goal.returns-then-is_held-2-clause-shown
returns-then-is_held-2-clause-shown c =
    let rows : List (List ℕ) = lists_of c.args.graph.now in
    let held : IsHeld (row rows c.args.last) (row rows c.args.list) =
    subst (λ r. IsHeld r (row rows c.args.list)) c.list-kept.ensures.value
    (subst (λ r. IsHeld c.list-kept.result.now r) c.list-here.ensures.value
    (c.is_held-2.ensures c.if-is_held-2.true)) in
    thinned-one rows c.args.marks.now.items c.args.last c.args.list c.requires.shown held (omega (arith, c.requires.last))
    (c.requires.unmarked c.args.list (omega arith))
