-- All lists are noted.
use Rattle.std.proofs.Common.{◌≤◌, length, subst, arith}
use Rattle.std.proofs.lemmas.List.{length-map}
use Rattle.specification.specs.Elements.{numbers_in}
use Rattle.specification.specs.Responses.{Returned}
use Rattle.order_graph.specs.Lists.{lists_of}
use Rattle.bit_tables.specs.Lists.{HaveWidth}
use Rattle.level_search.proofs.Noting.{noted_shown}
use Rattle.level_search.proofs.before_table.table.BeforeTable.of.Goals as goal

pub returns : goal.returns
returns c =
    let v = c.args.graph.now in
    let inv = c.loop-list.invariant in
    let past = c.loop-list-test.false in
    let end = c.lists-list-end.ensures.value in
    let count = length-map v.returned (λ (r : Returned). numbers_in v.elements r.names) in
    let all : length (lists_of v) ≤ c.loop-list.list = omega arith in
    record {
      len = inv.len;
      width = subst (λ n. HaveWidth n c.loop-list.rows.items) inv.width inv.between.sized.width;
      shown = λ a b low. noted_shown (lists_of v) c.loop-list.list c.loop-list.rows.items all
          inv.between.noted a b (omega (arith, inv.len));
    }
