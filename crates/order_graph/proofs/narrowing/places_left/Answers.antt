-- What is left of one row more is a row more.
use Rattle.std.proofs.Common.{◌≡◌, ℕ, ◌<◌, ◌≤◌, Option, List, [], ◌∷◌, ◌++◌, get_or, take, map, length, sym}
use Rattle.std.proofs.Common.{◌∙◌, ap, arith}
use Rattle.std.proofs.lemmas.List.{map_push, take_more, take_all}
use Rattle.element_numbers.specs.Cuts.{rows_of}
use Rattle.order_graph.specs.Renumbered.{numbers_left}
use Rattle.element_numbers.specs.declared.rows.Rows.{Rows}
use Rattle.element_numbers.proofs.Cuts.{length-rows, row-ended}
use Rattle.order_graph.proofs.narrowing.places_left.Goals as goal

pub loop-list-preserved : goal.loop-list-preserved
loop-list-preserved c =
    let t : Rows ℕ = c.args.places.now in
    let rows : List (List ℕ) = rows_of t in
    let anew : List (Option ℕ) = c.args.anew.now in
    let k : ℕ = c.loop-list.list in
    let r : List ℕ = get_or rows k [] in
    let within : k < length rows = omega (arith, length-rows t) in
    let old : Rows ℕ = c.loop-list.left in
    let new : Rows ℕ = c.end_row.new.self in
    let items : new.items.items ≡ old.items.items ++ numbers_left anew r = c.in_ok-end_row.ensures.items
    ∙ c.in_ok-add_left.ensures ∙ ap (λ w. old.items.items ++ numbers_left anew w) c.row.ensures in
    let ends : new.ends.items ≡ old.ends.items ++ (length new.items.items) ∷ [] = c.in_ok-end_row.ensures.ends
    ∙ ap (λ n. old.ends.items ++ n ∷ []) (ap length (sym c.in_ok-end_row.ensures.items)) in
    let both = row-ended old new (numbers_left anew r) c.loop-list.invariant.cut items ends in
    record {
      cut = both.1;
      rows = both.0 ∙ ap (λ l. l ++ numbers_left anew r ∷ []) c.loop-list.invariant.rows
          ∙ sym (map_push (numbers_left anew) (take k rows) r)
          ∙ ap (map (numbers_left anew)) (sym (take_more rows k [] within));
    }

pub returns-clause-rows : goal.returns-clause-rows
returns-clause-rows c =
    let t : Rows ℕ = c.args.places.now in
    let rows : List (List ℕ) = rows_of t in
    let all : length rows ≤ c.loop-list.list = omega (arith, length-rows t) in
    c.loop-list.invariant.rows ∙ ap (map (numbers_left c.args.anew.now)) (take_all c.loop-list.list rows all)
