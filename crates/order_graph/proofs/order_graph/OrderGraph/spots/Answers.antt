-- An element has no more spots than there are places, and the lists are short.
use Rattle.std.proofs.Common.{◌≡◌, ℕ, ◌<◌, ◌^◌, [], Option, List, Vec, Global, map, length, get_or, sym, ◌∙◌}
use Rattle.std.proofs.Common.{ap, subst, arith}
use Rattle.std.specs.Prelude.{IfSome, sum_by}
use Rattle.events.specs.Names.{NameBytes}
use Rattle.events.specs.Operation.{Operation}
use Rattle.element_numbers.specs.Cuts.{rows_of}
use Rattle.element_numbers.specs.declared.rows.Rows.{Rows}
use Rattle.order_graph.specs.Kept.{responses_kept, AreListed, AreSpotsOf}
use Rattle.order_graph.specs.Spots.{spots_of}
use Rattle.order_graph.specs.declared.spot.Spot.{Spot}
use Rattle.order_graph.proofs.Adding.{items_of, length_from}
use Rattle.order_graph.proofs.Listed.{listed-short}
use Rattle.order_graph.proofs.Shown.{lists-total}
use Rattle.order_graph.proofs.order_graph.OrderGraph.spots.Goals as goal

few-spots : (names : List NameBytes) (shown : List Operation) (places : Rows ℕ) (x : ℕ)
    → AreListed names shown places → length (spots_of (rows_of places) x) < 2 ^ 32
few-spots names shown places x listed =
    let rows : List (List ℕ) = rows_of places in
    let total : sum_by (λ r. length r) rows ≡ _ =
    ap (sum_by (λ (r : List ℕ). length r)) (sym listed.lists_are)
    ∙ lists-total (responses_kept names shown rows) in
    omega (arith, total, length_from 0 rows x, listed.few.places)

pub overflow_cast-result : goal.overflow_cast-result
overflow_cast-result c =
    let g = c.self.inside in
    let rows : List (List ℕ) = rows_of g.places in
    let are : AreSpotsOf rows c.in-Some.spots.items =
    subst (λ (s : Option (Vec (Vec Spot Global) Global)). IfSome s (λ lists. AreSpotsOf rows lists.items))
    c.in-Some.is c.self.invariant.spots_are in
    let same : c.spots_at.result.now ≡ spots_of rows c.args.x =
    c.spots_at.ensures
    ∙ ap (λ (l : List (Vec Spot Global)). get_or (map items_of l) c.args.x []) c.deref.ensures.value
    ∙ are c.args.x in
    omega (
      arith,
      few-spots g.names.items g.shown.items g.places c.args.x c.self.invariant.listed,
      ap (λ (l : List Spot). length l) same,
    )

pub count_of_spots-requires-clause-short : goal.count_of_spots-requires-clause-short
count_of_spots-requires-clause-short c =
    let g = c.self.inside in
    let listed = c.self.invariant.listed in
    listed-short g.names.items g.shown.items (rows_of g.places) listed.proper listed.few listed.lists_are

pub count_of_spots-requires-clause-count : goal.count_of_spots-requires-clause-count
count_of_spots-requires-clause-count c =
    let g = c.self.inside in
    few-spots g.names.items g.shown.items g.places c.args.x c.self.invariant.listed
