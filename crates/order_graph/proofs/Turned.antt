-- Rows in the other direction read as the responses in the other direction, which are proper and few where
-- these are.
use Rattle.std.proofs.Common.{◌≡◌, ◌≢◌, ℕ, ◌-◌, ◌<◌, List, [], ◌∷◌, ◌++◌, length, map, get_or, refl, sym, ◌∙◌}
use Rattle.std.proofs.Common.{ap, subst, arith}
use Rattle.std.specs.Prelude.{All, AllPairs, Contains, reverse, sum_by}
use Rattle.std.proofs.lemmas.Grind.{reverse_onto}
use Rattle.std.proofs.lemmas.List.{get_or-map, get_or-reverse, length-map, length-reverse, map-append}
use Rattle.std.proofs.lemmas.List.Elements.{All-map}
use Rattle.std.proofs.lemmas.List.Sums.{sum_by-cons}
use Rattle.events.specs.Names.{NameBytes}
use Rattle.events.specs.Operation.{Operation, ComesBefore}
use Rattle.specification.specs.Elements.{numbers_in}
use Rattle.specification.specs.Responses.{Responses, Returned, AreProper}
use Rattle.order_graph.specs.Kept.{names_at, returned_of, responses_kept}
use Rattle.order_graph.specs.Lists.{lists_of, AreFew}
use Rattle.order_graph.specs.Turned.{turned}
use Rattle.order_graph.proofs.Shown.{number_or}

map-reverse : {X Y : Type 0} (f : X → Y) (xs : List X) → map f (reverse xs) ≡ reverse (map f xs)
map-reverse f [] = refl
map-reverse f (x ∷ xs) =
    ap (map f) (reverse_onto xs x []) ∙ map-append f (reverse xs) (x ∷ [])
    ∙ ap (λ l. l ++ f x ∷ []) (map-reverse f xs) ∙ sym (reverse_onto (map f xs) (f x) [])

All-reverse : {X : Type 0} (P : X → Type 0) (xs : List X) → All P xs → All P (reverse xs)
All-reverse P xs all k d within =
    let count : length (reverse xs) ≡ length xs = length-reverse xs in
    let inside : k < length xs = omega arith in
    subst P (sym (get_or-reverse xs k d inside)) (all (length xs - 1 - k) d (omega arith))

distinct-reverse : {X : Type 0} (xs : List X) → AllPairs (λ a b. a ≢ b) xs
    → AllPairs (λ a b. a ≢ b) (reverse xs)
distinct-reverse xs apart i j d lt within same =
    let count : length (reverse xs) ≡ length xs = length-reverse xs in
    let high : j < length xs = omega arith in
    let low : i < length xs = omega arith in
    apart (length xs - 1 - j) (length xs - 1 - i) d (omega arith) (omega arith)
    (sym (get_or-reverse xs j d high) ∙ sym same ∙ get_or-reverse xs i d low)

abbrev turn : Returned → Returned
turn r = record { by = r.by; names = reverse r.names }

turned-proper : (v : Responses) → AreProper v → AreProper (turned v)
turned-proper v proper = record {
  distinct = proper.distinct;
  few = proper.few;
  in_order = λ i j d lt within.
      (let count : length (map turn v.returned) ≡ length v.returned = length-map v.returned turn in
      let high : j < length v.returned = omega arith in
      let low : i < length v.returned = omega arith in
      subst (λ (r : Returned). ComesBefore r.by (get_or (map turn v.returned) j d).by)
      (sym (get_or-map turn v.returned i d d low))
      (subst (λ (r : Returned). ComesBefore (get_or v.returned i d).by r.by)
      (sym (get_or-map turn v.returned j d d high)) (proper.in_order i j d lt high)));
  of_elements = All-map (λ (r : Returned). All (λ a. Contains v.elements a) r.names) turn v.returned
      (λ k d within. All-reverse (λ a. Contains v.elements a) (get_or v.returned k d).names
      (proper.of_elements k d within));
  repeat_free = All-map (λ (r : Returned). AllPairs (λ a b. a ≢ b) r.names) turn v.returned
      (λ k d within. distinct-reverse (get_or v.returned k d).names (proper.repeat_free k d within));
}

turned-places : (rs : List Returned)
    → sum_by (λ (r : Returned). length r.names) (map turn rs) ≡ sum_by (λ (r : Returned). length r.names) rs
turned-places [] = refl
turned-places (r ∷ rs) =
    omega (
      arith,
      turned-places rs,
      length-reverse r.names,
      sum_by-cons (λ (r : Returned). length r.names) r rs,
      sum_by-cons (λ (r : Returned). length r.names) (turn r) (map turn rs),
    )

turned-few : (v : Responses) → AreFew v → AreFew (turned v)
turned-few v few = record {
  lists = omega (arith, few.lists, length-map v.returned turn);
  places = omega (arith, few.places, turned-places v.returned);
}

turned-lists : (names : List NameBytes) (rs : List Returned)
    → map (λ (r : Returned). numbers_in names r.names) (map turn rs)
    ≡ map reverse (map (λ (r : Returned). numbers_in names r.names) rs)
turned-lists names [] = refl
turned-lists names (r ∷ rs) =
    let here : numbers_in names (reverse r.names) ≡ reverse (numbers_in names r.names) =
    map-reverse (number_or names) r.names in
    let rest = turned-lists names rs in
    λ i. here i ∷ rest i

-- its lists are those of the responses, each in the other direction
pub lists_turned : (v : Responses) → lists_of (turned v) ≡ map reverse (lists_of v)
lists_turned v = turned-lists v.elements v.returned

turned-returned : (names : List NameBytes) (os : List Operation) (rows : List (List ℕ))
    → returned_of names os (map reverse rows) ≡ map turn (returned_of names os rows)
turned-returned names [] rows = refl
turned-returned names (o ∷ os) [] = refl
turned-returned names (o ∷ os) (r ∷ rs) =
    let here : names_at names (reverse r) ≡ reverse (names_at names r) =
    map-reverse (λ x. get_or names x []) r in
    let rest = turned-returned names os rs in
    λ i. record { by = o; names = here i } ∷ rest i

-- names, operations and rows of responses in the other direction
pub record AreTurned (whole : Responses) (names : List NameBytes) (shown : List Operation)
    (rows : List (List ℕ)) : Type 0 where
  pub turned_is : responses_kept names shown rows ≡ turned whole
  pub proper : AreProper (responses_kept names shown rows)
  pub few : AreFew (responses_kept names shown rows)
  pub lists_are : lists_of (responses_kept names shown rows) ≡ rows
  pub count : length shown ≡ length rows

pub are-turned : (names : List NameBytes) (shown : List Operation) (rows : List (List ℕ))
    → AreProper (responses_kept names shown rows) → AreFew (responses_kept names shown rows)
    → lists_of (responses_kept names shown rows) ≡ rows → length shown ≡ length rows
    → AreTurned (responses_kept names shown rows) names shown (map reverse rows)
are-turned names shown rows proper few lists_are count =
    let whole : Responses = responses_kept names shown rows in
    let same = turned-returned names shown rows in
    let is : responses_kept names shown (map reverse rows) ≡ turned whole =
    λ i. record { elements = names; returned = same i } in
    record {
      turned_is = is;
      proper = subst AreProper (sym is) (turned-proper whole proper);
      few = subst AreFew (sym is) (turned-few whole few);
      lists_are = ap lists_of is ∙ lists_turned whole ∙ ap (map reverse) lists_are;
      count = omega (arith, count, length-map {B = List ℕ} rows reverse);
    }
