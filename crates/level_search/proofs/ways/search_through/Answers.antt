-- How much a search over the lists may raise the count; and the looks of a search over the table.
use Rattle.std.proofs.Common.{inl, arith}
use Rattle.level_search.proofs.ListLooks.{looked-most}
use Rattle.level_search.proofs.ways.search_through.Goals as goal

pub returns-in-None-clause-looked : goal.returns-in-None-clause-looked
returns-in-None-clause-looked g c =
    looked-most c.args.graph.now (g.B.BoundSource.last c.search_by_lists.new.bound) c.search_by_lists.result
    c.args.looked.now c.search_by_lists.new.looked c.search_by_lists.ensures.looks

pub returns-in-Some-clause-looks : goal.returns-in-Some-clause-looks
returns-in-Some-clause-looks g c =
    let looks = c.search_by_table.ensures.looks in
    let low = g.B.BoundSource.last c.search_by_table.new.bound in
    (looks.2.0, inl (low, looks.0, omega arith, looks.2.1), looks.2.2)
