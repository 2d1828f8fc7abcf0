-- One list more.
use Rattle.std.proofs.Common.{◌≡◌, ℕ, ◌<◌, ◌≤◌, List, ◌++◌, take, length, vec_len, ap, ◌∙◌, arith}
use Rattle.std.proofs.lemmas.List.{take_all}
use Rattle.element_numbers.specs.Cuts.{rows_of}
use Rattle.order_graph.specs.Spots.{spots_in, spots_from}
use Rattle.order_graph.proofs.Adding.{one_more_list}
use Rattle.element_numbers.proofs.Cuts.{length-rows}
use Rattle.order_graph.proofs.spots.all_spots.Goals as goal

pub overflow_cast-list : goal.overflow_cast-list
overflow_cast-list c = let t =
    c.args.places.now in omega (arith, length-rows t, c.requires.few)

pub loop-list-preserved : goal.loop-list-preserved
loop-list-preserved c =
    let t = c.args.places.now in
    let rows : List (List ℕ) = rows_of t in
    let l : ℕ = c.loop-list.list in
    let count : vec_len c.loop-list.spots ≡ c.args.elements = c.loop-list.invariant.count in
    let within : l < length rows = omega (arith, length-rows t) in
    record {
      count = c.in_ok-row_spots.ensures.count ∙ count;
      spots = λ x inside.
          c.in_ok-row_spots.ensures.spots x (omega arith)
          ∙ ap (λ s. s ++ spots_in l 0 c.row.result.now x) (c.loop-list.invariant.spots x inside)
          ∙ ap (λ r. spots_from 0 (take l rows) x ++ spots_in l 0 r x) c.row.ensures
          ∙ one_more_list rows l x within;
    }

pub returns-clause-spots : goal.returns-clause-spots
returns-clause-spots c = λ x inside.
    let t = c.args.places.now in
    let rows : List (List ℕ) = rows_of t in
    let all : length rows ≤ c.loop-list.list = omega (arith, length-rows t) in
    c.loop-list.invariant.spots x inside ∙ ap (λ rs. spots_from 0 rs x) (take_all c.loop-list.list rows all)
