-- The spots of one list more; no more than all.
use Rattle.std.proofs.Common.{◌≡◌, ℕ, ◌+◌, ◌<◌, ◌≤◌, ◌^◌, List, length, take, sym, ◌∙◌, ap, subst, arith}
use Rattle.std.proofs.Common.{length-append}
use Rattle.std.proofs.lemmas.List.{take_all}
use Rattle.element_numbers.specs.Cuts.{rows_of}
use Rattle.element_numbers.specs.declared.rows.Rows.{Rows}
use Rattle.element_numbers.proofs.Cuts.{length-rows}
use Rattle.order_graph.specs.Lists.{row}
use Rattle.order_graph.specs.Spots.{spots_in, spots_from}
use Rattle.order_graph.specs.declared.spot.Spot.{Spot}
use Rattle.order_graph.proofs.Adding.{one_more_list}
use Rattle.order_graph.proofs.OneSpot.{front-few}
use Rattle.order_graph.proofs.spots.count_of_spots.Goals as goal

-- with the spots of the next list, those of one list more
one-more : (places : Rows ℕ) (l x count more : ℕ) (here : List ℕ) → l < length (rows_of places)
    → here ≡ row (rows_of places) l
    → count ≡ length (spots_from 0 (take l (rows_of places)) x) → more ≡ length (spots_in l 0 here x)
    → count + more ≡ length (spots_from 0 (take (l + 1) (rows_of places)) x)
one-more places l x count more here within is counted found =
    let rows : List (List ℕ) = rows_of places in
    omega (
      arith,
      counted,
      found,
      ap (λ (r : List ℕ). length (spots_in l 0 r x)) is,
      length-append (spots_from 0 (take l rows) x) (spots_in l 0 (row rows l) x),
      ap (λ (s : List Spot). length s) (one_more_list rows l x within),
    )

pub count_in-count-requires : goal.count_in-count-requires
count_in-count-requires c =
    subst (λ (r : List ℕ). length r < 2 ^ 32) (sym c.row.ensures) (c.requires.short c.loop-list.list)

pub overflow_add-count : goal.overflow_add-count
overflow_add-count c =
    let t = c.args.places.now in
    let l : ℕ = c.loop-list.list in
    let x : ℕ = c.args.x in
    omega (
      arith,
      one-more t l x c.loop-list.count c.count_in-count.result c.row.result.now
          (omega (arith, length-rows t)) c.row.ensures c.loop-list.invariant
          (c.count_in-count.ensures l),
      front-few (rows_of t) (l + 1) x,
      c.requires.count,
    )

pub loop-list-preserved : goal.loop-list-preserved
loop-list-preserved c =
    let l : ℕ = c.loop-list.list in
    one-more c.args.places.now l c.args.x c.loop-list.count c.count_in-count.result c.row.result.now
    (omega (arith, length-rows c.args.places.now)) c.row.ensures c.loop-list.invariant
    (c.count_in-count.ensures l)

pub returns : goal.returns
returns c =
    let rows : List (List ℕ) = rows_of c.args.places.now in
    let all : length rows ≤ c.loop-list.list = omega (arith, length-rows c.args.places.now) in
    c.loop-list.invariant
    ∙ ap (λ (rs : List (List ℕ)). length (spots_from 0 rs c.args.x)) (take_all c.loop-list.list rows all)
