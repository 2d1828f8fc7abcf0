-- One row more in the other direction.
use Rattle.std.proofs.Common.{◌≡◌, ℕ, ◌<◌, ◌≤◌, List, [], ◌∷◌, ◌++◌, get_or, take, map, length, sym}
use Rattle.std.proofs.Common.{◌∙◌, ap, arith}
use Rattle.std.specs.Prelude.{reverse}
use Rattle.std.proofs.lemmas.List.{map_push, take_more, take_all}
use Rattle.element_numbers.specs.Cuts.{rows_of}
use Rattle.element_numbers.specs.declared.rows.Rows.{Rows}
use Rattle.element_numbers.proofs.Cuts.{length-rows}
use Rattle.order_graph.proofs.turning.rows_turned.Goals as goal

pub loop-list-preserved : goal.loop-list-preserved
loop-list-preserved c =
    let t : Rows ℕ = c.args.rows.now in
    let rows : List (List ℕ) = rows_of t in
    let k : ℕ = c.loop-list.list in
    let r : List ℕ = get_or rows k [] in
    let within : k < length rows = omega (arith, length-rows t) in
    let old : Rows ℕ = c.loop-list.turned in
    let lent : c.deref.result.now ≡ reverse r = c.deref.ensures.value ∙ c.in_ok-row.ensures
    ∙ ap reverse c.row.ensures in
    record {
      cut = c.in_ok-push_row.ensures.cut;
      rows = c.in_ok-push_row.ensures.rows ∙ ap (λ l. rows_of old ++ l ∷ []) lent
          ∙ ap (λ l. l ++ reverse r ∷ []) c.loop-list.invariant.rows
          ∙ sym (map_push reverse (take k rows) r)
          ∙ ap (map reverse) (sym (take_more rows k [] within));
    }

pub returns-clause-rows : goal.returns-clause-rows
returns-clause-rows c =
    let t : Rows ℕ = c.args.rows.now in
    let rows : List (List ℕ) = rows_of t in
    let all : length rows ≤ c.loop-list.list = omega (arith, length-rows t) in
    c.loop-list.invariant.rows ∙ ap (map reverse) (take_all c.loop-list.list rows all)
