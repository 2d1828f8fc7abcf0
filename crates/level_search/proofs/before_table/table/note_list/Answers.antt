-- All places of the list are noted.
use Rattle.std.proofs.Common.{arith}
use Rattle.order_graph.specs.Lists.{lists_of}
use Rattle.level_search.proofs.Noting.{noted_all}
use Rattle.level_search.proofs.before_table.table.note_list.Goals as goal

pub returns-clause-between : goal.returns-clause-between
returns-clause-between c =
    let front = c.loop-place.invariant.front in
    let past = c.loop-place-test.false in
    let end = c.length-place-end.ensures in
    record {
      sized = front.sized;
      noted = noted_all (lists_of c.args.graph.now) c.args.list c.loop-place.place c.loop-place.rows
          (omega arith) front.noted;
      last = front.last;
    }
