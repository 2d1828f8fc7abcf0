-- What is left is looked for in the lists behind.
use Rattle.std.proofs.Common.{◌≡◌, ℕ, ◌+◌, ◌<◌, ◌≤◌, ◌^◌, Some, List, length, take, slice_get, sym, ◌∙◌, ap}
use Rattle.std.proofs.Common.{subst, arith, length-append}
use Rattle.std.proofs.lemmas.List.{take_all}
use Rattle.std.proofs.lemmas.Option.{slice_get_past}
use Rattle.element_numbers.specs.Cuts.{rows_of}
use Rattle.element_numbers.proofs.Cuts.{length-rows}
use Rattle.order_graph.specs.Lists.{row}
use Rattle.order_graph.specs.Spots.{spots_in, spots_from, spots_of}
use Rattle.order_graph.specs.declared.spot.Spot.{Spot}
use Rattle.order_graph.proofs.Adding.{one_more_list}
use Rattle.order_graph.proofs.OneSpot.{spot-of_list}
use Rattle.order_graph.proofs.spots.spot_among.Goals as goal

pub overflow_cast-list : goal.overflow_cast-list
overflow_cast-list c = omega (arith, length-rows c.args.places.now, c.requires.few)

pub spot_in-requires : goal.spot_in-requires
spot_in-requires c =
    let rows : List (List ℕ) = rows_of c.args.places.now in
    subst (λ (r : List ℕ). length r < 2 ^ 32) (sym c.row.ensures) (c.requires.short c.loop-list.list)

pub returns-in-Ok : goal.returns-in-Ok
returns-in-Ok c =
    let rows : List (List ℕ) = rows_of c.args.places.now in
    let l : ℕ = c.loop-list.list in
    let within : l < length rows = omega (arith, length-rows c.args.places.now) in
    let got : slice_get (spots_in l 0 (row rows l) c.args.x) c.loop-list.left ≡ Some c.in-Ok.spot =
    subst (λ (r : List ℕ). slice_get (spots_in l 0 r c.args.x) c.loop-list.left ≡ Some c.in-Ok.spot)
    c.row.ensures c.in-Ok.ensures in
    sym (ap (slice_get (spots_of rows c.args.x)) c.loop-list.invariant
    ∙ spot-of_list rows l c.args.x c.loop-list.left c.in-Ok.spot within got)

pub loop-list-preserved : goal.loop-list-preserved
loop-list-preserved c =
    let rows : List (List ℕ) = rows_of c.args.places.now in
    let l : ℕ = c.loop-list.list in
    let x : ℕ = c.args.x in
    let within : l < length rows = omega (arith, length-rows c.args.places.now) in
    let left : c.loop-list.left ≡ length (spots_in l 0 (row rows l) x) + c.in-Err.more =
    subst (λ (r : List ℕ). c.loop-list.left ≡ length (spots_in l 0 r x) + c.in-Err.more) c.row.ensures
    c.in-Err.ensures in
    let more : length (spots_from 0 (take l rows) x) + length (spots_in l 0 (row rows l) x)
    ≡ length (spots_from 0 (take (l + 1) rows) x) =
    sym (length-append (spots_from 0 (take l rows) x) (spots_in l 0 (row rows l) x))
    ∙ ap (λ (s : List Spot). length s) (one_more_list rows l x within) in
    omega (arith, c.loop-list.invariant, left, more)

pub returns : goal.returns
returns c =
    let rows : List (List ℕ) = rows_of c.args.places.now in
    let x : ℕ = c.args.x in
    let all : length rows ≤ c.loop-list.list = omega (arith, length-rows c.args.places.now) in
    let whole : length (spots_from 0 (take c.loop-list.list rows) x) ≡ length (spots_of rows x) =
    ap (λ (rs : List (List ℕ)). length (spots_from 0 rs x)) (take_all c.loop-list.list rows all) in
    sym (slice_get_past (spots_of rows x) c.args.i (omega (arith, whole, c.loop-list.invariant)))
