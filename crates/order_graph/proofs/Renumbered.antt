-- What is kept of some elements alone reads as what is left of the responses, so it is proper and few where
-- these are.
use Rattle.std.proofs.Common.{◌≡◌, ◌≢◌, ℕ, ◌<◌, ◌≤◌, inl, inr, Bool, true, false, cond, Option, None, List}
use Rattle.std.proofs.Common.{[], ◌∷◌, length, map, filter, get_or, refl, sym, ◌∙◌, ap, subst, arith}
use Rattle.std.specs.Prelude.{All, AllPairs, bytes_eq, unwrap_or, sum_by}
use Rattle.std.specs.List.{cons_option, list_any}
use Rattle.std.proofs.lemmas.Bool.{false≢true}
use Rattle.std.proofs.lemmas.List.{get_or-map, length-map}
use Rattle.std.proofs.lemmas.List.Sums.{sum_by-cons}
use Rattle.std.proofs.lemmas.Option.{slice_get-get_or, get_or_from_slice_get}
use Rattle.std.proofs.lemmas.Slice.Eq.{bytes_eq-Decides}
use Rattle.events.specs.Names.{NameBytes}
use Rattle.events.specs.Operation.{Operation}
use Rattle.specification.specs.Elements.{number_in, numbers_in}
use Rattle.specification.specs.LayerRule.{narrowed}
use Rattle.specification.specs.Responses.{Responses, Returned, AreProper}
use Rattle.specification.proofs.Members.{In, Once, Once-bounded, Once-from_AllPairs, In-from_place}
use Rattle.specification.proofs.Members.{place_of_In, All-member}
use Rattle.specification.proofs.Narrowed.{narrowed-proper}
use Rattle.specification.proofs.OperationNames.{In_map-from}
use Rattle.specification.proofs.Tests.{Decides-in, In_filter-from}
use Rattle.element_numbers.proofs.NameNumbers.{number-some, number-none}
use Rattle.order_graph.specs.Kept.{names_at, returned_of, responses_kept}
use Rattle.order_graph.specs.Lists.{lists_of, row, AreFew}
use Rattle.order_graph.specs.Renumbered.{numbers_left}
use Rattle.order_graph.proofs.ReadBack.{read-back}
use Rattle.order_graph.proofs.Shown.{known-numbers}

-- names at numbers that rise differ where the names do, and are among them
module _ (names : List NameBytes) (distinct : AllPairs (λ a b. a ≢ b) names) (kept : List ℕ)
    (rising : AllPairs (λ x y. x < y) kept) (known : All (λ x. x < length names) kept) where
  abbrev name : ℕ → NameBytes
  name x = get_or names x []

  pub distinct-kept : AllPairs (λ a b. a ≢ b) (names_at names kept)
  distinct-kept i j d lt within same =
      let many : length (names_at names kept) ≡ length kept = length-map kept name in
      let high : j < length kept = omega arith in
      let low : i < length kept = omega arith in
      let e : name (get_or kept i 0) ≡ name (get_or kept j 0) =
      sym (get_or-map name kept i 0 d low) ∙ same ∙ get_or-map name kept j 0 d high in
      distinct (get_or kept i 0) (get_or kept j 0) [] (rising i j 0 lt high) (known j 0 high) e

  In-kept : (a : NameBytes) → In a (names_at names kept) → In a names
  In-kept a i =
      let s : (x : ℕ) × In x kept × (a ≡ name x) = In_map-from name a kept i in
      let low : s.0 < length names = All-member (λ x. x < length names) kept s.0 known s.1 in
      subst (λ b. In b names) (sym s.2)
      (In-from_place names s.0 (name s.0) (slice_get-get_or names s.0 [] low))

  pub once-kept : Once (names_at names kept)
  once-kept = Once-from_AllPairs (names_at names kept) distinct-kept

  pub count-kept : length (names_at names kept) ≤ length names
  count-kept = Once-bounded (names_at names kept) names once-kept In-kept

module _ (names among : List NameBytes) (once : Once among) where
  abbrev anew : List (Option ℕ)
  anew = map (number_in among) names

  abbrev is_kept : NameBytes → Bool
  is_kept a = list_any (bytes_eq a) among

  abbrev left : List NameBytes → List NameBytes
  left = filter is_kept

  -- the new numbers are those of the names that are left
  left-numbers : (r : List ℕ) → ((x : ℕ) → In x r → x < length names)
      → numbers_left anew r ≡ numbers_in among (left (names_at names r))
  left-numbers [] known = refl
  left-numbers (x ∷ r) known =
      let a : NameBytes = get_or names x [] in
      let at : get_or anew x None ≡ number_in among a =
      get_or-map (number_in among) names x [] None (known x (inl refl)) in
      ap (λ n. cons_option n (numbers_left anew r)) at
      ∙ go a (is_kept a) refl (left-numbers r (λ y i. known y (inr i)))
    where
      go : (a : NameBytes) (b : Bool) → is_kept a ≡ b
          → numbers_left anew r ≡ numbers_in among (left (names_at names r))
          → cons_option (number_in among a) (numbers_left anew r)
          ≡ numbers_in among (cond b (a ∷ left (names_at names r)) (left (names_at names r)))
      go a true e rest =
          let s = number-some among a once ((Decides-in bytes_eq bytes_eq-Decides a among).0 e) in
          ap (λ n. cons_option n (numbers_left anew r)) s.2 ∙ ap (λ l. s.0 ∷ l) rest
          ∙ ap (λ n. unwrap_or n (length among) ∷ numbers_in among (left (names_at names r))) (sym s.2)
      go a false e rest =
          ap (λ n. cons_option n (numbers_left anew r))
          (number-none among a (λ i. false≢true (sym e ∙ (Decides-in bytes_eq bytes_eq-Decides a among).1 i)))
          ∙ rest

  left-names : (r : List ℕ) → ((x : ℕ) → In x r → x < length names)
      → names_at among (numbers_left anew r) ≡ left (names_at names r)
  left-names r known =
      ap (names_at among) (left-numbers r known)
      ∙ read-back among (left (names_at names r)) once
      (λ a i. (Decides-in bytes_eq bytes_eq-Decides a among).0
      (In_filter-from is_kept a (names_at names r) i).1)

  pub left-returned : (os : List Operation) (rows : List (List ℕ))
      → ((r : List ℕ) → In r rows → (x : ℕ) → In x r → x < length names)
      → returned_of among os (map (numbers_left anew) rows)
      ≡ map (λ (r : Returned). record { by = r.by; names = left r.names }) (returned_of names os rows)
  left-returned [] rows known = refl
  left-returned (o ∷ os) [] known = refl
  left-returned (o ∷ os) (r ∷ rs) known =
      let here = left-names r (known r (inl refl)) in
      let rest = left-returned os rs (λ q i. known q (inr i)) in
      λ i. record { by = o; names = here i } ∷ rest i

  pub left-lists : (os : List Operation) (rows : List (List ℕ))
      → ((r : List ℕ) → In r rows → (x : ℕ) → In x r → x < length names) → length os ≡ length rows
      → map (λ (r : Returned). numbers_in among r.names) (returned_of among os (map (numbers_left anew) rows))
      ≡ map (numbers_left anew) rows
  left-lists [] [] known same = refl
  left-lists [] (r ∷ rs) known same = absurd (omega arith)
  left-lists (o ∷ os) [] known same = refl
  left-lists (o ∷ os) (r ∷ rs) known same =
      let here : numbers_in among (names_at among (numbers_left anew r)) ≡ numbers_left anew r =
      ap (numbers_in among) (left-names r (known r (inl refl))) ∙ sym (left-numbers r (known r (inl refl))) in
      let rest = left-lists os rs (λ q i. known q (inr i)) (omega arith) in
      λ i. here i ∷ rest i

  length-left : (w : List NameBytes) → length (left w) ≤ length w
  length-left [] = omega arith
  length-left (a ∷ w) = go (is_kept a) (length-left w)
    where
      go : (b : Bool) → length (left w) ≤ length w → length (cond b (a ∷ left w) (left w)) ≤ length (a ∷ w)
      go true le = omega (arith, le)
      go false le = omega (arith, le)

  pub places-left : (rs : List Returned)
      → sum_by (λ (r : Returned). length r.names)
      (map (λ (r : Returned). record { by = r.by; names = left r.names }) rs)
      ≤ sum_by (λ (r : Returned). length r.names) rs
  places-left [] = omega arith
  places-left (r ∷ rs) =
      let one : Returned = record { by = r.by; names = left r.names } in
      omega (
        arith,
        places-left rs,
        length-left r.names,
        sum_by-cons (λ (r : Returned). length r.names) r rs,
        sum_by-cons (λ (r : Returned). length r.names) one
            (map (λ (r : Returned). record { by = r.by; names = left r.names }) rs),
      )

-- names, operations and rows of what is left of responses that have these names
pub record AreLeft (whole : Responses) (wanted among : List NameBytes) (shown : List Operation)
    (fewer : List (List ℕ)) : Type 0 where
  pub narrowed_is : responses_kept among shown fewer ≡ narrowed whole wanted
  pub proper : AreProper (responses_kept among shown fewer)
  pub few : AreFew (responses_kept among shown fewer)
  pub lists_are : lists_of (responses_kept among shown fewer) ≡ fewer
  pub count : length shown ≡ length fewer

module _ (names among : List NameBytes) (kept : List ℕ) (shown : List Operation) (rows fewer : List (List ℕ))
    (proper : AreProper (responses_kept names shown rows)) (few : AreFew (responses_kept names shown rows))
    (lists_are : lists_of (responses_kept names shown rows) ≡ rows) (count : length shown ≡ length rows)
    (rising : AllPairs (λ x y. x < y) kept) (known : All (λ x. x < length names) kept)
    (among_is : among ≡ names_at names kept) (fewer_is : fewer
    ≡ map (numbers_left (map (number_in among) names)) rows) where
  abbrev whole : Responses
  whole = responses_kept names shown rows

  abbrev part : Responses
  part = responses_kept among shown fewer

  once : Once among
  once = subst Once (sym among_is) (once-kept names proper.distinct kept rising known)

  known-rows : (r : List ℕ) → In r rows → (x : ℕ) → In x r → x < length names
  known-rows r i x j =
      let p = place_of_In rows r i in
      let all : All (λ x. x < length names) (row rows p.0) =
      subst (λ (rs : List (List ℕ)). All (λ x. x < length names) (row rs p.0)) lists_are
      (known-numbers whole proper p.0) in
      All-member (λ x. x < length names) r x (subst (λ (w : List ℕ). All (λ x. x < length names) w)
      (get_or_from_slice_get rows p.0 r [] p.2) all) j

  part-is : part ≡ narrowed whole among
  part-is =
      let same = left-returned names among once shown rows known-rows in
      ap (responses_kept among shown) fewer_is ∙ (λ i. record { elements = among; returned = same i })

  pub are-left : AreLeft whole (names_at names kept) among shown fewer
  are-left = record {
    narrowed_is = part-is ∙ ap (narrowed whole) among_is;
    proper = subst AreProper (sym part-is)
        (narrowed-proper whole among proper once (subst (λ (l : List NameBytes). length l ≤ length names)
        (sym among_is) (count-kept names proper.distinct kept rising known)));
    few = subst AreFew (sym part-is) (record {
      lists = omega (
        arith,
        few.lists,
        length-map {B = Returned} whole.returned (λ (r : Returned). record {
          by = r.by;
          names = filter (λ x. list_any (bytes_eq x) among) r.names;
        }),
      );
      places = omega (arith, few.places, places-left names among once whole.returned);
    });
    lists_are = ap (λ l. lists_of (responses_kept among shown l)) fewer_is
        ∙ left-lists names among once shown rows known-rows count ∙ sym fewer_is;
    count = omega (
      arith,
      count,
      ap (λ (l : List (List ℕ)). length l) fewer_is,
      length-map {B = List ℕ} rows (numbers_left (map (number_in among) names)),
    );
  }

  pub whole-known : (l : ℕ) → All (λ x. x < length names) (row rows l)
  whole-known l =
      subst (λ (rs : List (List ℕ)). All (λ x. x < length names) (row rs l)) lists_are
      (known-numbers whole proper l)
