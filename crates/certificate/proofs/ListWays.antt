-- Ways along lists of numbers are ways among the elements from the source on, so the layers of numbers are
-- those of an exact row.
use Rattle.std.proofs.Common.{◌≡◌, ℕ, zero, suc, ◌+◌, ◌-◌, ◌<◌, ◌≤◌, Bool, true, false}
use Rattle.std.proofs.Common.{Some, List, [], ◌∷◌, Vec, Global, cond, drop, map, get_or, length, refl, sym}
use Rattle.std.proofs.Common.{◌∙◌, arith, ap, subst}
use Rattle.std.specs.Prelude.{All, Contains, bytes_eq, slice_get}
use Rattle.std.proofs.lemmas.List.{get_or-map, get_or_default, length-map}
use Rattle.std.proofs.lemmas.Option.{slice_get_within, slice_get-get_or, get_or_from_slice_get}
use Rattle.std.proofs.lemmas.Slice.Eq.{bytes_eq-Decides}
use Rattle.events.specs.Names.{NameBytes}
use Rattle.events.proofs.Places.{drop-get}
use Rattle.specification.specs.Elements.{numbers_in}
use Rattle.specification.specs.Responses.{Responses, AreProper, StandsBefore}
use Rattle.specification.specs.LayerRule.{Row, elements_from, narrowed, row_responses}
use Rattle.specification.specs.Versions.{two}
use Rattle.specification.specs.ExactRows as names
use Rattle.specification.proofs.Members.{In, Once, In-from_Contains, Contains-from_In, In-from_place}
use Rattle.specification.proofs.Members.{place_of_In, In-map, Before-from_places}
use Rattle.specification.proofs.OperationNames.{In_map-from}
use Rattle.specification.proofs.Numbers.{number, number-rises}
use Rattle.specification.proofs.Narrowed.{narrowed-shows, narrowed_shows-from}
use Rattle.specification.proofs.Shown.{ShowsIn-from_Shows, Shows-from_ShowsIn, elements-once}
use Rattle.order_graph.specs.Kept.{names_at}
use Rattle.order_graph.specs.Lists.{lists_of}
use Rattle.list_search.specs.Graph.{Before}
use Rattle.list_search.proofs.Joining.{name, number-name, stands-names, stands-numbers, before-known}
use Rattle.bit_tables.specs.Rule.{layer_at}
use Rattle.list_layers.specs.Ways.{IsStep, Way, IsDistance, IsLayerAt}
use Rattle.list_layers.proofs.Walking.{way_counts}

-- the elements from one of them on are those from its place on
pub from-drop : (es : List NameBytes) (s : ℕ) → Once es → s < length es
    → elements_from es (get_or es s []) ≡ drop s es
from-drop [] s once lt = absurd (let none : s < 0 = lt in omega (arith, none))
from-drop (x ∷ xs) zero once lt = rw ((bytes_eq-Decides x x).1 refl) refl
from-drop (x ∷ xs) (suc s) once lt =
    go (bytes_eq x (get_or xs s [])) refl (from-drop xs s once.1 (omega (arith, lt)))
  where
    there : In (get_or xs s []) xs
    there = In-from_place xs s (get_or xs s []) (slice_get-get_or xs s [] (omega (arith, lt)))

    go : (t : Bool) → bytes_eq x (get_or xs s []) ≡ t → elements_from xs (get_or xs s []) ≡ drop s xs
        → cond t (x ∷ xs) (elements_from xs (get_or xs s [])) ≡ drop s xs
    go true e rest =
        absurd (once.0 (subst (λ y. In y xs) (sym ((bytes_eq-Decides x (get_or xs s [])).0 e)) there))
    go false e rest = rest

Once-drop : (s : ℕ) (es : List NameBytes) → Once es → Once (drop s es)
Once-drop zero es once = once
Once-drop (suc s) [] once = tt
Once-drop (suc s) (x ∷ xs) once = Once-drop s xs once.1

-- before and behind a place
in-drop : (es : List NameBytes) (s i : ℕ) (y : NameBytes) → s ≤ i → slice_get es i ≡ Some y
    → slice_get (drop s es) (i - s) ≡ Some y
in-drop es s i y le at =
    drop-get s (i - s) es ∙ ap (slice_get es) (let e : s + (i - s) ≡ i = omega (arith, le) in e) ∙ at

module _ (v : Responses) (proper : AreProper v) (s : ℕ) (known : s < length v.elements) where
  abbrev source : NameBytes
  source = name v s

  abbrev among : List NameBytes
  among = elements_from v.elements source

  abbrev left : Responses
  left = narrowed v among

  whole : Once v.elements
  whole = elements-once v proper

  same : among ≡ drop s v.elements
  same = from-drop v.elements s whole known

  -- an element counts where its number is at least that of the source
  among-place : (y : NameBytes) → In y among → (i : ℕ) × (s ≤ i) × (slice_get v.elements i ≡ Some y)
  among-place y i =
      let p = place_of_In (drop s v.elements) y (subst (λ l. In y l) same i) in
      (s + p.0, omega arith, sym (drop-get s p.0 v.elements) ∙ p.2)

  place-among : (i : ℕ) (y : NameBytes) → s ≤ i → slice_get v.elements i ≡ Some y → In y among
  place-among i y le at =
      subst (λ l. In y l) (sym same)
      (In-from_place (drop s v.elements) (i - s) y (in-drop v.elements s i y le at))

  name-among : (x : ℕ) → x < length v.elements → s ≤ x → In (name v x) among
  name-among x lt le = place-among x (name v x) le (slice_get-get_or v.elements x [] lt)

  numbered : (i : ℕ) (y : NameBytes) → slice_get v.elements i ≡ Some y → number v.elements y ≡ i
  numbered i y at =
      ap (number v.elements) (sym (get_or_from_slice_get v.elements i y [] at))
      ∙ number-name v proper i (slice_get_within v.elements i y at)

  among-number : (y : NameBytes) → In y among → s ≤ number v.elements y
  among-number y i = let p = among-place y i in let e = numbered p.0 y p.2 in omega (arith, e, p.1)

  -- of two that count the one with the lesser number is the lesser among them
  number-among : (x y : ℕ) → s ≤ x → x < y → y < length v.elements
      → number among (name v x) < number among (name v y)
  number-among x y le lt within =
      let one : slice_get (drop s v.elements) (x - s) ≡ Some (name v x) =
      in-drop v.elements s x (name v x) le (slice_get-get_or v.elements x [] (omega (arith, lt, within))) in
      let other : slice_get (drop s v.elements) (y - s) ≡ Some (name v y) =
      in-drop v.elements s y (name v y) (omega (arith, le, lt)) (slice_get-get_or v.elements y [] within) in
      subst (λ l. number l (name v x) < number l (name v y)) (sym same)
      (number-rises (drop s v.elements) (Once-drop s v.elements whole) (name v x) (name v y)
      (Before-from_places (drop s v.elements) (name v x) (name v y) (x - s) (y - s)
      (omega (arith, le, lt)) one other))

  -- what stands before what
  narrow-stands : (x y : NameBytes) → In x among → In y among → StandsBefore v x y → StandsBefore left x y
  narrow-stands x y i j t = (
    t.0,
    Shows-from_ShowsIn left t.0 x y
        (narrowed-shows v among t.0 x y i j (ShowsIn-from_Shows v t.0 x y t.1)),
  )

  narrow_stands-from : (x y : NameBytes) → StandsBefore left x y
      → In x among × In y among × StandsBefore v x y
  narrow_stands-from x y t =
      let f = narrowed_shows-from v among t.0 x y (ShowsIn-from_Shows left t.0 x y t.1) in
      (f.0, f.1, (t.0, Shows-from_ShowsIn v t.0 x y f.2))

  -- ways
  way-names : (j x : ℕ) → x < length v.elements → Way (lists_of v) s j x → names.Way left j source (name v x)
  way-names zero x lt way = ap (name v) way
  way-names (suc j) x lt way =
      let c : ℕ = way.0 in
      let step : IsStep (lists_of v) s c x = way.2 in
      let within : c < length v.elements = (before-known v proper c x step.shown).0 in (
        name v c,
        way-names j c within way.1,
        narrow-stands (name v c) (name v x) (name-among c within step.from) (name-among x lt step.to)
            (stands-names v proper c x step.shown),
      )

  way-numbers : (j : ℕ) (y : NameBytes) → names.Way left j source y → Way (lists_of v) s j (number v.elements y)
  way-numbers zero y way = sym (number-name v proper s known) ∙ ap (number v.elements) way
  way-numbers (suc j) y way =
      let c : NameBytes = way.0 in
      let f = narrow_stands-from c y way.2 in
      let before : Before (lists_of v) (number v.elements c) (number v.elements y) =
      stands-numbers v proper c y f.2 in
      let step : IsStep (lists_of v) s (number v.elements c) (number v.elements y) = record {
        from = among-number c f.0;
        to = among-number y f.1;
        shown = before;
      } in
      (number v.elements c, way-numbers j c way.1, step)

  -- a layer of numbers is a layer of names
  module _ (d : ℕ) (layer : List ℕ) (is : IsLayerAt (length v.elements) (lists_of v) s d layer) where
    layer-names : (x : NameBytes) → In x (names_at v.elements layer)
        → In x among × names.IsDistance left d source x
    layer-names x i =
        let t : (y : ℕ) × In y layer × (x ≡ name v y) = In_map-from (name v) x layer i in
        let p = (is.has t.0).0 (Contains-from_In layer t.0 t.1) in
        let way : Way (lists_of v) s d t.0 = p.1.way in
        subst (λ (z : NameBytes). In z among × names.IsDistance left d source z) (sym t.2) (
          name-among t.0 p.0 (way_counts (lists_of v) s d t.0 way),
          (
            way-names d t.0 p.0 way,
            λ fewer lt shorter.
                p.1.shortest fewer lt
                (subst (λ y. Way (lists_of v) s fewer y) (number-name v proper t.0 p.0)
                (way-numbers fewer (name v t.0) shorter)),
          ),
        )

    names-layer : (x : NameBytes) → In x among → names.IsDistance left d source x
        → In x (names_at v.elements layer)
    names-layer x i distance =
        let p = among-place x i in
        let lt : p.0 < length v.elements = slice_get_within v.elements p.0 x p.2 in
        let named : name v p.0 ≡ x = get_or_from_slice_get v.elements p.0 x [] p.2 in
        let near : IsDistance (lists_of v) s d p.0 = record {
          way = subst (λ y. Way (lists_of v) s d y) (numbered p.0 x p.2) (way-numbers d x distance.0);
          shortest =
              λ fewer less shorter. distance.1 fewer less
              (subst (λ z. names.Way left fewer source z) named (way-names fewer p.0 lt shorter));
        } in
        subst (λ z. In z (names_at v.elements layer)) named
        (In-map (name v) p.0 layer (In-from_Contains layer p.0 ((is.has p.0).1 (lt, near))))

    number-there : (k : ℕ) → k < length layer → get_or (numbers_in among (names_at v.elements layer)) k 0
        ≡ number among (name v (get_or layer k 0))
    number-there k lt =
        let size : k < length (names_at v.elements layer) =
        subst (λ n. k < n) (sym (length-map layer (name v))) lt in
        get_or-map (number among) (names_at v.elements layer) k [] 0 size
        ∙ ap (number among) (get_or-map (name v) layer k 0 [] lt)

    member : (k : ℕ) → k < length layer → Contains layer (get_or layer k 0)
    member k lt = (k, lt, get_or_default layer k (get_or layer k 0) 0 lt)

    pub exact_layer : names.IsLayer left source d (names_at v.elements layer)
    exact_layer = record {
      holds = λ x. (
        λ c. (let p = layer-names x (In-from_Contains (names_at v.elements layer) x c) in
            (Contains-from_In among x p.0, p.1)),
        λ p. Contains-from_In (names_at v.elements layer) x
            (names-layer x (In-from_Contains among x p.0) p.1),
      );
      ascending = λ k lt.
          let size : length (numbers_in among (names_at v.elements layer)) ≡ length layer =
          length-map (names_at v.elements layer) (number among) ∙ length-map layer (name v) in
          let next : k + 1 < length layer = omega (arith, lt, size) in
          let here : k < length layer = omega (arith, next) in
          let first = (is.has (get_or layer k 0)).0 (member k here) in
          let second = (is.has (get_or layer (k + 1) 0)).0 (member (k + 1) next) in
          let less : number among (name v (get_or layer k 0))
          < number among (name v (get_or layer (k + 1) 0)) =
          number-among (get_or layer k 0) (get_or layer (k + 1) 0)
          (way_counts (lists_of v) s d (get_or layer k 0) first.1.way) (is.rising k next) second.0 in
          subst (λ n. n < get_or (numbers_in among (names_at v.elements layer)) (k + 1) 0)
          (sym (number-there k here))
          (subst (λ n. number among (name v (get_or layer k 0)) < n) (sym (number-there (k + 1) next)) less);
    }

  -- the row with these layers
  pub exact_row : (k : ℕ) (layers : List (Vec ℕ Global)) → 1 ≤ k → length layers ≡ k - 1
      → ((d : ℕ) → d < k - 1 → IsLayerAt (length v.elements) (lists_of v) s d (layer_at layers d))
      → names.IsExactRow (row_responses two v source) k source
      (map (λ (layer : Vec ℕ Global). names_at v.elements layer.items) layers)
  exact_row k layers some count each = record {
    layers =
        (let size = length-map layers (λ (layer : Vec ℕ Global). names_at v.elements layer.items) in
        omega (arith, size, count, some));
    each = λ d layer at.
        let row : Row = map (λ (layer : Vec ℕ Global). names_at v.elements layer.items) layers in
        let size : length row ≡ length layers =
        length-map layers (λ (layer : Vec ℕ Global). names_at v.elements layer.items) in
        let within : d < length layers =
        (let lt = slice_get_within row d layer at in omega (arith, lt, size)) in
        let here : Vec ℕ Global = get_or layers d (some_layer layers within) in
        let given : names_at v.elements here.items ≡ layer =
        sym (get_or-map (λ (layer : Vec ℕ Global). names_at v.elements layer.items) layers d
        (some_layer layers within) [] within) ∙ get_or_from_slice_get row d layer [] at in
        let kept : layer_at layers d ≡ here.items =
        get_or-map (λ (layer : Vec ℕ Global). layer.items) layers d
        (some_layer layers within) [] within in
        subst (λ l. names.IsLayer left source d l) given
        (subst (λ l. names.IsLayer left source d (names_at v.elements l)) kept
        (exact_layer d (layer_at layers d) (each d (omega (arith, within, count)))));
  }
    where
      some_layer : (all : List (Vec ℕ Global)) {i : ℕ} → i < length all → Vec ℕ Global
      some_layer [] lt = absurd (omega (arith, lt))
      some_layer (x ∷ all) lt = x

-- layers at distances have only numbers below n
pub within-layers : (n count source : ℕ) (lists : List (List ℕ)) (layers : List (Vec ℕ Global))
    → length layers ≡ count
    → ((d : ℕ) → d < count → IsLayerAt n lists source d (layer_at layers d))
    → All (λ (layer : Vec ℕ Global). All (λ x. x < n) layer.items) layers
within-layers n count source lists layers size each i v lt j e inside =
    let layer : Vec ℕ Global = get_or layers i v in
    let x : ℕ = get_or layer.items j e in
    let kept : layer_at layers i ≡ layer.items =
    get_or-map (λ (layer : Vec ℕ Global). layer.items) layers i v [] lt in
    let there : Contains layer.items x = (j, inside, get_or_default layer.items j x e inside) in
    (((each i (omega (arith, lt, size))).has x).0 (subst (λ l. Contains l x) (sym kept) there)).0
