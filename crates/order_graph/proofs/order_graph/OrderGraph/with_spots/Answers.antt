-- The places are few, and numbers of elements; what is no element has no spots.
use Rattle.std.proofs.Common.{◌≡◌, ℕ, ◌<◌, inl, inr, [], List, Vec, Global, map, length, get_or, subst, sym}
use Rattle.std.proofs.Common.{◌∙◌, arith}
use Rattle.std.specs.Prelude.{All}
use Rattle.std.proofs.lemmas.Bool.{cases_lt}
use Rattle.std.proofs.lemmas.List.{get_or_past, length-map}
use Rattle.element_numbers.specs.Cuts.{rows_of}
use Rattle.order_graph.specs.Lists.{row}
use Rattle.order_graph.specs.Spots.{spots_of}
use Rattle.order_graph.specs.declared.spot.Spot.{Spot}
use Rattle.order_graph.proofs.Adding.{items_of, no_spots_past}
use Rattle.order_graph.proofs.Listed.{listed-few, listed-known, listed-short}
use Rattle.order_graph.proofs.order_graph.OrderGraph.with_spots.Goals as goal

pub all_spots-requires-clause-few : goal.all_spots-requires-clause-few
all_spots-requires-clause-few c =
    let listed = c.requires in
    listed-few c.args.names.items c.args.shown.items (rows_of c.args.places) listed.proper listed.few
    listed.lists_are

pub all_spots-requires-clause-known : goal.all_spots-requires-clause-known
all_spots-requires-clause-known c =
    let listed = c.requires in
    let count : length c.args.names.items ≡ c.len.result = omega (arith, c.len.ensures, c.args.names.ok) in
    subst (λ n. (l : ℕ) → All (λ x. x < n) (row (rows_of c.args.places) l)) count
    (listed-known c.args.names.items c.args.shown.items (rows_of c.args.places) listed.proper listed.few
    listed.lists_are)

pub all_spots-requires-clause-short : goal.all_spots-requires-clause-short
all_spots-requires-clause-short c =
    let listed = c.requires in
    listed-short c.args.names.items c.args.shown.items (rows_of c.args.places) listed.proper listed.few
    listed.lists_are

pub invariant_of-result : goal.invariant_of-result
invariant_of-result c =
    let listed = c.requires in
    let places : List (List ℕ) = rows_of c.args.places in
    let elements : ℕ = length c.args.names.items in
    let spots : List (Vec Spot Global) = c.in_ok-spots.spots.items in
    let lists : List (List Spot) = map items_of spots in
    let count : elements ≡ c.len.result = omega (arith, c.len.ensures, c.args.names.ok) in
    let many : length lists ≡ elements =
    omega (
      arith,
      count,
      length-map spots items_of,
      c.in_ok-spots.ensures.count,
      c.in_ok-spots.spots.ok,
    ) in
    let known =
    listed-known c.args.names.items c.args.shown.items places listed.proper listed.few listed.lists_are in
    record {
      listed = listed;
      spots_are = λ x. elim (cases_lt x elements) as (λ _. get_or lists x [] ≡ spots_of places x) [
        | inl early ↦ c.in_ok-spots.ensures.spots x (omega (arith, early, count))
        | inr late ↦ get_or_past lists x [] (omega arith) ∙ sym (no_spots_past places elements x known late)
      ];
    }
