-- One list more, and all of them.
use Rattle.std.proofs.Common.{◌≡◌, ℕ, ◌+◌, ◌<◌, ◌≤◌, List, [], length, get_or, vec_len, ◌∙◌, ap, subst, arith}
use Rattle.std.specs.Prelude.{◌↔◌, ◌⊎◌, Contains}
use Rattle.std.proofs.lemmas.List.{length-map}
use Rattle.std.proofs.lemmas.List.Elements.{Contains-get_or}
use Rattle.std.proofs.lemmas.List.Sums.{sum_by_more, sum_by-take-le}
use Rattle.specification.specs.Elements.{numbers_in}
use Rattle.specification.specs.Responses.{Responses, Returned}
use Rattle.order_graph.specs.Lists.{lists_of, row}
use Rattle.order_graph.proofs.Shown.{lists-total}
use Rattle.witness_order.specs.Edges.{lists_in, linked_from, IsNext, AreNeighbours, AreSuccessors}
use Rattle.witness_order.proofs.Followed.{known_below}
use Rattle.witness_order.proofs.Linked.{no-edges}
use Rattle.witness_order.proofs.Listing.{one-more, neighbours-more, neighbours-all}
use Rattle.witness_order.proofs.successors.successors_of.Goals as goal

-- there are as many lists as responses
many : (v : Responses) → length (lists_of v) ≡ length v.returned
many v = length-map v.returned (λ (r : Returned). numbers_in v.elements r.names)

pub loop-list-init : goal.loop-list-init
loop-list-init c =
    let made = c.in_ok-successors.ensures in
    record {
      count = made.count ∙ c.elements.ensures.value;
      kept = made.kept;
      listed = λ x y. (
        λ h. absurd (no-edges c.in_ok-successors.successors.edges.items
            c.in_ok-successors.successors.heads.items (omega (arith, made.empty)) x y h),
        λ h. absurd (omega (arith, h.1)),
      );
      short = omega (arith, made.empty);
    }

pub note_list-requires-clause-room : goal.note_list-requires-clause-room
note_list-requires-clause-room c =
    let rows : List (List ℕ) = lists_of c.args.graph.now in
    let l : ℕ = c.loop-list.list in
    let within : l < length rows =
    omega (arith, c.loop-list-test.true, c.lists-list-end.ensures.value, many c.args.graph.now) in
    omega (
      arith,
      c.loop-list.invariant.short,
      ap (λ (r : List ℕ). length r) c.list.ensures.value,
      sum_by_more (λ (r : List ℕ). length r) rows l [] within,
      sum_by-take-le (λ (r : List ℕ). length r) rows (l + 1),
      lists-total c.args.graph.now,
      c.lists-list-end.ensures.few.places,
    )

pub loop-list-preserved : goal.loop-list-preserved
loop-list-preserved c =
    let rows : List (List ℕ) = lists_of c.args.graph.now in
    let l : ℕ = c.loop-list.list in
    let inv = c.loop-list.invariant in
    let made = c.in_ok-note_list.ensures in
    let old : List (List ℕ) = lists_in c.loop-list.successors in
    let new : List (List ℕ) = lists_in c.note_list.new.successors in
    let is : c.list.result.now ≡ row rows l = c.list.ensures.value in
    let within : l < length rows =
    omega (arith, c.loop-list-test.true, c.lists-list-end.ensures.value, many c.args.graph.now) in
    record {
      count = made.count ∙ inv.count;
      kept = made.kept;
      listed = λ x y.
          one-more
          (subst (λ (r : List ℕ). Contains (row new x) y ↔ (Contains (row old x) y ⊎ IsNext r x y)) is
          (made.listed x y)) (inv.listed x y) (neighbours-more rows l x y);
      short = omega (
        arith,
        made.short,
        inv.short,
        ap (λ (r : List ℕ). length r) is,
        sum_by_more (λ (r : List ℕ). length r) rows l [] within,
      );
    }

pub returns : goal.returns
returns c =
    let rows : List (List ℕ) = lists_of c.args.graph.now in
    let l : ℕ = c.loop-list.list in
    let inv = c.loop-list.invariant in
    let edges = c.loop-list.successors.edges.items in
    let heads : List ℕ = c.loop-list.successors.heads.items in
    let successors : List (List ℕ) = lists_in c.loop-list.successors in
    let count : vec_len c.loop-list.successors.heads ≡ length c.args.graph.now.elements = inv.count in
    let all : length rows ≤ l =
    omega (arith, c.loop-list-test.false, c.lists-list-end.ensures.value, many c.args.graph.now) in
    let listed : (x y : ℕ) → Contains (row successors x) y ↔ AreNeighbours rows x y = λ x y.
    let before = inv.listed x y in
    let whole = neighbours-all rows l x y all in
    (λ h. whole.0 (before.0 h), λ h. before.1 (whole.1 h)) in
    let found : AreSuccessors rows (length c.args.graph.now.elements) successors = record {
      size = omega (
        arith,
        length-map heads (linked_from edges),
        count,
        c.loop-list.successors.heads.ok,
      );
      known = λ x k d lt.
          let y : ℕ = get_or (row successors x) k d in
          let two : AreNeighbours rows x y = (listed x y).0 (Contains-get_or (row successors x) k d lt) in
          known_below c.args.graph.now c.elements.ensures.proper two.list
          (two.place + 1) y two.second;
      listed = listed;
    } in
    record {
      successors = found;
      kept = inv.kept;
      edges = record {
        successors = found;
        count = count;
        falling = inv.kept.falling;
        within = inv.kept.within;
      };
      count = count;
      few = omega (arith, count, c.elements.ensures.value, c.elements.type_inv);
    }
