-- The row of one number more is added, or was added with that of the number before.
use Rattle.std.proofs.Common.{arith}
use Rattle.bit_tables.proofs.LayerLemmas.{successors_step, successors_skipped}
use Rattle.bit_tables.proofs.layers.add_successors.Goals as goal
use Rattle.bit_tables.proofs.layers.add_successors.Goals.{then-not-row_before_has_all}
use Rattle.bit_tables.proofs.layers.add_successors.Goals.{else-not-row_before_has_all}

pub numbers-preserved : goal.numbers-preserved
numbers-preserved c = elim c.if-not-row_before_has_all.branch [
  | then-not-row_before_has_all w ↦
      let inv = c.numbers.invariant in
      rw w.into-is (record {
        len = omega (arith, w.union_from.ensures.len, inv.len);
        has = successors_step c.args.table.now c.args.layer.now c.numbers.i c.args.into.now c.numbers.into
            w.union_from.new.self w.after.result.now
            (omega arith) w.after.ensures c.args.first inv.has w.union_from.ensures.has;
      })
  | else-not-row_before_has_all w ↦
      let inv = c.numbers.invariant in
      let added = c.row_before_has_all.ensures w.if-not-row_before_has_all.false in
      rw w.into-is (record {
        len = inv.len;
        has = successors_skipped c.args.table.now c.args.layer.now c.numbers.i c.args.into.now c.numbers.into
            (omega arith) added.0 added.1 c.args.first inv.has;
      })
]
