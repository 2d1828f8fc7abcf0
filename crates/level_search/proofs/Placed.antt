-- Numbers that stand at places of lists are no more than the places.
use Rattle.std.proofs.Common.{◌≡◌, ℕ, zero, suc, ◌+◌, ◌*◌, ◌<◌, ◌≤◌, Some, List, [], ◌∷◌, ◌++◌, length}
use Rattle.std.proofs.Common.{Bool, filter, refl, ap, ◌∙◌, arith, length-append}
use Rattle.std.specs.Prelude.{AllPairs, Contains, bytes_eq, sum_by}
use Rattle.std.specs.List.{range_with_len, list_any}
use Rattle.std.proofs.lemmas.List.FromFn.{length-range_with_len}
use Rattle.std.proofs.lemmas.List.Sorted.{length_permutation}
use Rattle.std.proofs.lemmas.List.Sums.{count_by-le-length, length-filter, sum_by-cons}
use Rattle.std.proofs.lemmas.Nat.{mul-le}
use Rattle.std.proofs.lemmas.Option.{slice_get-get_or}
use Rattle.events.specs.Names.{NameBytes}
use Rattle.specification.specs.LayerRule.{narrowed}
use Rattle.specification.specs.Responses.{Responses, Returned, place_count}
use Rattle.specification.proofs.Members.{In, Once, Once-bounded, Once-from_AllPairs, In-append_left}
use Rattle.specification.proofs.Members.{In-append_right, In-from_place, Contains-from_In}
use Rattle.order_graph.specs.Lists.{lists_of, row}
use Rattle.order_graph.proofs.Shown.{lists-total}
use Rattle.level_search.specs.Conflicts.{IsWithinSearches}
use Rattle.level_search.specs.Cores.{IsPlaced}
use Rattle.level_search.specs.Looks.{AreCycleLooks}
use Rattle.level_search.specs.Team.{AreLooksOf}
use Rattle.level_search.proofs.Counts.{counts-most}
use Rattle.level_search.proofs.LayerSizes.{counted-most}

-- all lists, one after the other
abbrev joined : List (List ℕ) → List ℕ
joined [] = []
joined (r ∷ rs) = r ++ joined rs

joined-length : (rows : List (List ℕ)) → length (joined rows) ≡ sum_by (λ r. length r) rows
joined-length [] = refl
joined-length (r ∷ rs) =
    omega (arith, length-append r (joined rs), joined-length rs, sum_by-cons (λ (l : List ℕ). length l) r rs)

in-joined : (rows : List (List ℕ)) (l x : ℕ) → In x (row rows l) → In x (joined rows)
in-joined [] l x i = i
in-joined (r ∷ rs) zero x i = In-append_left x r (joined rs) i
in-joined (r ∷ rs) (suc l) x i = In-append_right x r (joined rs) (in-joined rs l x i)

rising-once : (xs : List ℕ) → AllPairs (λ x y. x < y) xs → Once xs
rising-once xs rising =
    Once-from_AllPairs xs (λ i j d lt within e. (let up = rising i j d lt within in omega arith))

pub placed-few : (v : Responses) (xs : List ℕ) → AllPairs (λ x y. x < y) xs
    → ((x : ℕ) → Contains xs x → IsPlaced (lists_of v) x) → length xs ≤ place_count v
placed-few v xs rising placed =
    let rows : List (List ℕ) = lists_of v in
    let few : length xs ≤ length (joined rows) =
    Once-bounded xs (joined rows) (rising-once xs rising) (λ z i.
    (let at = placed z (Contains-from_In xs z i) in
    in-joined rows at.list z (In-from_place (row rows at.list) at.place z
    (slice_get-get_or (row rows at.list) at.place 0 at.here.within ∙ ap Some at.here.here)))) in
    omega (arith, few, joined-length rows, lists-total v)

-- what is left where elements are left out has no more places
pub narrowed-places : (v : Responses) (among : List NameBytes) → place_count (narrowed v among) ≤ place_count v
narrowed-places v among = go v.returned
  where
    go : (rs : List Returned)
        → sum_by (λ r. length r.names) (narrowed (record { elements = v.elements; returned = rs }) among).returned
        ≤ sum_by (λ r. length r.names) rs
    go [] = omega arith
    go (r ∷ rs) =
        let kept : NameBytes → Bool = λ x. list_any (bytes_eq x) among in
        let left : Returned = record { by = r.by; names = filter kept r.names } in
        omega (
          arith,
          go rs,
          length-filter kept r.names,
          count_by-le-length kept r.names,
          sum_by-cons (λ (o : Returned). length o.names) r rs,
          sum_by-cons (λ (o : Returned). length o.names) left
              (narrowed (record { elements = v.elements; returned = rs }) among).returned,
        )

-- a search from each of these elements, with two looks at most at the row of each, or one at each place and
-- element, makes no more looks than elements times places and elements
pub within-searches : (v : Responses) (n : ℕ) (rows : List (List ℕ)) (least looked : ℕ)
    → n ≤ length v.elements → n ≤ place_count v → sum_by (λ r. length r) rows ≤ place_count v
    → AreLooksOf n rows least looked → IsWithinSearches v looked
within-searches v n rows least looked known placed total is =
    let all =
    counts-most n rows least is.sources is.places is.found is.count (place_count v + length v.elements)
    (omega (arith, known, placed)) (omega (arith, known, total)) is.counts in
    let searches : length is.places ≡ length is.sources =
    length_permutation (range_with_len 0 (length is.sources)) is.places is.once
    ∙ length-range_with_len 0 (length is.sources) in
    let few = is.few in
    let most =
    mul-le (length is.places) (place_count v + length v.elements) (length v.elements)
    (place_count v + length v.elements) (omega (arith, searches, few, known)) (omega arith) in
    let looked_is = is.looked_is in
    omega (arith, looked_is, all, most, counted-most is.count 0)

-- the looks for the least cycle in a part are within those of the whole
pub cycle-looks-whole : (part v : Responses) (k looked : ℕ) → length part.elements ≤ length v.elements
    → place_count part ≤ place_count v → AreCycleLooks part k looked → AreCycleLooks v k looked
cycle-looks-whole part v k looked elements places are =
    let few = are.few in
    let one : ℕ = place_count part + length part.elements in
    let all : ℕ = place_count v + length v.elements in
    record {
      some = are.some;
      few = omega (
        arith,
        few,
        mul-le (length part.elements) (6 * one) (length v.elements) (6 * all) elements (omega arith),
        mul-le k one k all (omega arith) (omega arith),
      );
    }
