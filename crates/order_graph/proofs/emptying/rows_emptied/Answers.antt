use Rattle.std.proofs.Common.{◌≡◌, ℕ, suc, ◌+◌, ◌<◌, List, [], ◌∷◌, ◌++◌, length, sym, take_all, ◌∙◌, ap, arith}
use Rattle.std.specs.Prelude.{take}
use Rattle.element_numbers.specs.Cuts.{rows_of}
use Rattle.element_numbers.proofs.Cuts.{length-rows}
use Rattle.order_graph.specs.Emptied.{emptied_rows}
use Rattle.order_graph.proofs.Emptied.{emptied-next}
use Rattle.order_graph.proofs.emptying.rows_emptied.Goals as goal

pub loop-list-preserved : goal.loop-list-preserved
loop-list-preserved c =
    let e = c.in_ok-push_row.ensures in
    let rows : List (List ℕ) = rows_of c.args.rows.now in
    let under : c.loop-list.list < length rows = omega (arith, length-rows c.args.rows.now, c.loop-list-test.true) in
    let next : suc c.loop-list.list ≡ c.loop-list.list + 1 = omega arith in
    record {
      cut = e.cut;
      rows = e.rows
          ∙ ap (λ l. l ++ c.row_unless.result.now ∷ []) c.loop-list.invariant.rows
          ∙ ap (λ r. emptied_rows c.args.marks.now (take c.loop-list.list rows) ++ r ∷ []) c.row_unless.ensures
          ∙ sym (emptied-next c.args.marks.now rows c.loop-list.list under)
          ∙ ap (λ n. emptied_rows c.args.marks.now (take n rows)) next;
    }

pub returns-clause-rows : goal.returns-clause-rows
returns-clause-rows c =
    let rows : List (List ℕ) = rows_of c.args.rows.now in
    c.loop-list.invariant.rows
    ∙ ap (emptied_rows c.args.marks.now)
    (take_all c.loop-list.list rows (omega (arith, length-rows c.args.rows.now, c.loop-list-test.false)))
