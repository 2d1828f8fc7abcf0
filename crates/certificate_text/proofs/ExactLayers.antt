-- A row whose layers hold the elements at each distance from the source meets the layer rule, where no cycle
-- is shorter than k; and there is one such row at most.
use Rattle.std.proofs.Common.{◌≡◌, ◌≢◌, ℕ, zero, suc, ◌+◌, ◌-◌, ◌<◌, ◌≤◌, ◌⊎◌, inl, inr, true, Some, List, []}
use Rattle.std.proofs.Common.{◌∷◌, ◌++◌, length, refl, sym, ◌∙◌, arith, ap, subst, length-append}
use Rattle.std.specs.Prelude.{Contains, bytes_eq, slice_get, slice_index_or}
use Rattle.std.specs.List.{list_any}
use Rattle.std.proofs.lemmas.Bool.{cases_lt, cases_eq}
use Rattle.std.proofs.lemmas.Slice.Eq.{bytes_eq-Decides}
use Rattle.std.proofs.lemmas.Option.{slice_get-get_or}
use Rattle.std.proofs.lemmas.List.Elements.{All-weaker}
use Rattle.events.specs.Names.{NameBytes}
use Rattle.events.specs.Operation.{Operation}
use Rattle.specification.specs.Responses.{Responses, Returned, StandsBefore, HasInOrder, AreProper}
use Rattle.specification.specs.LayerRule.{Row, depth_in, row_names, row_responses, MeetsLayerRule}
use Rattle.specification.specs.Versions.{Version}
use Rattle.specification.specs.Conflict.{IsCycle, ring}
use Rattle.specification.specs.ValidCertificate.{HasSource, RowsMeetRule}
use Rattle.specification.specs.Search.{IsCycleLength, IsShortestLength}
use Rattle.specification.specs.ExactRows.{Way, IsDistance, IsLayer, IsExactRow, AreExactRows}
use Rattle.specification.proofs.Members.{In, In-from_Contains, Contains-from_In, In-append_cases}
use Rattle.specification.proofs.Members.{Before-second, All-from_members}
use Rattle.specification.proofs.Numbers.{number}
use Rattle.specification.proofs.OperationNames.{Rising, Rising-append, AllPairs-from_Rising}
use Rattle.specification.proofs.Narrowed.{row-proper, row-element, row_shows-from}
use Rattle.specification.proofs.Shown.{ShowsIn, ShowsIn-from_Shows, Shows-from_ShowsIn, names-elements}
use Rattle.specification.proofs.Tests.{Decides-in}
use Rattle.specification.proofs.Walks.{Walk, Walk-append}
use Rattle.specification.proofs.Cycles.{cycle_from_closed}
use Rattle.certificate_text.proofs.Rising.{rising_members, one_rising, same_places, first-most, first-passes}
use Rattle.certificate_text.proofs.Rising.{first-least}

-- the distance is one number
pub one_distance : (v : Responses) (m n : ℕ) (a b : NameBytes) → IsDistance v m a b → IsDistance v n a b
    → m ≡ n
one_distance v m n a b first second = go (cases_lt m n) (cases_lt n m)
  where
    go : (m < n) ⊎ (n ≤ m) → (n < m) ⊎ (m ≤ n) → m ≡ n
    go (inl lt) o = absurd (second.1 m lt first.0)
    go (inr le) (inl lt) = absurd (first.1 n lt second.0)
    go (inr le) (inr ge) = omega arith

-- a way is a walk of as many steps
way-walk : (v : Responses) (n : ℕ) (a b : NameBytes) → Way v n a b
    → (ss : List (Operation × NameBytes)) × (Walk (ShowsIn v) a ss b) × (length ss ≡ n)
way-walk v zero a b w = ([], w, refl)
way-walk v (suc n) a b w =
    let s : (ss : List (Operation × NameBytes)) × (Walk (ShowsIn v) a ss w.0) × (length ss ≡ n) =
    way-walk v n a w.0 w.1 in (
      s.0 ++ (w.2.0, b) ∷ [],
      Walk-append (ShowsIn v) a w.0 b s.0 ((w.2.0, b) ∷ []) s.1
          (ShowsIn-from_Shows v w.2.0 w.0 b w.2.1, refl),
      omega (arith, s.2, length-append {A = Operation × NameBytes}),
    )

pub way_back-cycle : (v : Responses) (n : ℕ) (a : NameBytes) → Way v (suc n) a a → IsCycleLength v (suc n)
way_back-cycle v n a w =
    let s : (ss : List (Operation × NameBytes)) × (Walk (ShowsIn v) a ss a) × (length ss ≡ suc n) =
    way-walk v (suc n) a a w in
    subst (λ m. IsCycleLength v m) s.2
    (cycle_from_closed v (record { from = a; steps = s.0; walk = s.1; some = omega (arith, s.2) }))

-- the layers from a distance on
abbrev pub AreLayersFrom : Responses → NameBytes → ℕ → Row → Type 0
AreLayersFrom v source from row = (n : ℕ) (layer : List NameBytes) → slice_get row n ≡ Some layer
    → IsLayer v source (from + n) layer

later-layers : (v : Responses) (source : NameBytes) (from : ℕ) (layer : List NameBytes) (row : Row)
    → AreLayersFrom v source from (layer ∷ row) → AreLayersFrom v source (suc from) row
later-layers v source from layer row are n next at = let e : from + suc n ≡ suc from + n = omega arith in
    subst (λ m. IsLayer v source m next) e (are (suc n) next at)

first-layer : (v : Responses) (source : NameBytes) (from : ℕ) (layer : List NameBytes) (row : Row)
    → AreLayersFrom v source from (layer ∷ row) → IsLayer v source from layer
first-layer v source from layer row are = let e : from + 0 ≡ from = omega arith in
    subst (λ m. IsLayer v source m layer) e (are 0 layer refl)

-- a name of these layers is an element at one of these distances
named-far : (v : Responses) (source : NameBytes) (from : ℕ) (row : Row) → AreLayersFrom v source from row
    → (x : NameBytes) → In x (row_names row) →
    (In x v.elements) × ((n : ℕ) × (from ≤ n) × IsDistance v n source x)
named-far v source from [] are x i = absurd i
named-far v source from (layer ∷ row) are x i =
    go (In-append_cases x layer (row_names row) i)
    (named-far v source (suc from) row (later-layers v source from layer row are) x)
  where
    go : In x layer ⊎ In x (row_names row)
        → (In x (row_names row) → (In x v.elements) × ((n : ℕ) × (suc from ≤ n) × IsDistance v n source x)) →
        (In x v.elements) × ((n : ℕ) × (from ≤ n) × IsDistance v n source x)
    go (inl j) rest =
        let h : Contains v.elements x × IsDistance v from source x =
        ((first-layer v source from layer row are).holds x).0 (Contains-from_In layer x j) in
        (In-from_Contains v.elements x h.0, (from, omega arith, h.1))
    go (inr j) rest = let h : (In x v.elements) × ((n : ℕ) × (suc from ≤ n) × IsDistance v n source x) =
        rest j in (h.0, (h.1.0, omega (arith, h.1.1), h.1.2))

-- names in rising order differ
differing : (v : Responses) (xs : List NameBytes)
    → Rising (λ a b. number v.elements a < number v.elements b) xs → Rising (λ a b. a ≢ b) xs
differing v [] r = tt
differing v (x ∷ xs) r = (
  λ y i e. let lt : number v.elements x < number v.elements y = r.0 y i in
      let same : number v.elements x ≡ number v.elements y = ap (number v.elements) e in omega arith,
  differing v xs r.1,
)

once-layers : (v : Responses) (source : NameBytes) (from : ℕ) (row : Row) → AreLayersFrom v source from row
    → Rising (λ a b. a ≢ b) (row_names row)
once-layers v source from [] are = tt
once-layers v source from (layer ∷ row) are =
    let here : IsLayer v source from layer = first-layer v source from layer row are in
    Rising-append (λ a b. a ≢ b) layer (row_names row)
    (differing v layer (rising_members (number v.elements) layer here.ascending))
    (once-layers v source (suc from) row (later-layers v source from layer row are))
    (λ x y i j e.
    let near : Contains v.elements x × IsDistance v from source x =
    (here.holds x).0 (Contains-from_In layer x i) in
    let far : (In y v.elements) × ((n : ℕ) × (suc from ≤ n) × IsDistance v n source y) =
    named-far v source (suc from) row (later-layers v source from layer row are) y j in
    let same : from ≡ far.1.0 =
    one_distance v from far.1.0 source y (subst (λ z. IsDistance v from source z) e near.1) far.1.2 in
    omega (arith, far.1.1))

-- two layers at one distance are one
pub one_layer : (v : Responses) (source : NameBytes) (n : ℕ) (xs ys : List NameBytes) → IsLayer v source n xs
    → IsLayer v source n ys → xs ≡ ys
one_layer v source n xs ys one other =
    one_rising (number v.elements) xs ys (rising_members (number v.elements) xs one.ascending)
    (rising_members (number v.elements) ys other.ascending)
    (λ z i. In-from_Contains ys z ((other.holds z).1 ((one.holds z).0 (Contains-from_In xs z i))))
    (λ z i. In-from_Contains xs z ((one.holds z).1 ((other.holds z).0 (Contains-from_In ys z i))))

pub one_row : (v : Responses) (k : ℕ) (source : NameBytes) (p q : Row) → IsExactRow v k source p
    → IsExactRow v k source q → p ≡ q
one_row v k source p q one other =
    same_places p q (omega (arith, one.layers, other.layers))
    (λ n xs ys at there. one_layer v source n xs ys (one.each n xs at) (other.each n ys there))

pub one_list_of_rows : (version : Version) (v : Responses) (k : ℕ) (sources : List NameBytes)
    (ps qs : List Row) → AreExactRows version v k sources ps → AreExactRows version v k sources qs → ps ≡ qs
one_list_of_rows version v k [] [] [] a b = refl
one_list_of_rows version v k [] [] (q ∷ qs) a b = absurd b
one_list_of_rows version v k [] (p ∷ ps) qs a b = absurd a
one_list_of_rows version v k (s ∷ sources) [] qs a b = absurd a
one_list_of_rows version v k (s ∷ sources) (p ∷ ps) [] a b = absurd b
one_list_of_rows version v k (s ∷ sources) (p ∷ ps) (q ∷ qs) a b =
    let head : p ≡ q = one_row (row_responses version v s) k s p q a.0 b.0 in
    let tail : ps ≡ qs = one_list_of_rows version v k sources ps qs a.1 b.1 in
    λ i. head i ∷ tail i

-- what stands after something is an element
second-element : (v : Responses) → AreProper v → (a b : NameBytes) → StandsBefore v a b → In b v.elements
second-element v proper a b s = let t : ShowsIn v s.0 a b = ShowsIn-from_Shows v s.0 a b s.1 in
    names-elements v proper t.0 t.1 b (Before-second a b t.0.names t.3)

-- one row
module _ (v : Responses) (k : ℕ) (source : NameBytes) (row : Row) (is : IsExactRow v k source row) where
  layers : AreLayersFrom v source 0 row
  layers n layer at = let e : n ≡ 0 + n =
      omega arith in subst (λ m. IsLayer v source m layer) e (is.each n layer at)

  count : length row ≡ k - 1
  count = omega (arith, is.layers)

  depth-most : (x : NameBytes) → depth_in k row x ≤ k - 1
  depth-most x = first-most (λ layer. list_any (bytes_eq x) layer) row (k - 1) count

  depth-way : (x : NameBytes) → depth_in k row x < k - 1 → Way v (depth_in k row x) source x
  depth-way x lt =
      let at : (layer : List NameBytes) × (slice_get row (depth_in k row x) ≡ Some layer)
      × (list_any (bytes_eq x) layer ≡ true) =
      first-passes (λ layer. list_any (bytes_eq x) layer) row (k - 1) count [] lt in
      let i : In x at.0 = (Decides-in bytes_eq bytes_eq-Decides x at.0).0 at.2 in
      (((is.each (depth_in k row x) at.0 at.1).holds x).0 (Contains-from_In at.0 x i)).1.0

  -- no way is shorter than an element is deep
  none_before : (x : NameBytes) → In x v.elements → (m : ℕ) → m ≤ depth_in k row x → (n : ℕ) → n < m
      → Way v n source x → ⊥
  none_before x element zero le n lt w = omega arith
  none_before x element (suc m) le n lt w = go (none_before x element m (omega arith)) (cases_eq n m)
    where
      go : ((j : ℕ) → j < m → Way v j source x → ⊥) → (n ≡ m) ⊎ (n ≡ m → ⊥) → ⊥
      go fewer (inr other) = fewer n (omega arith) w
      go fewer (inl e) =
          let most : depth_in k row x ≤ k - 1 = depth-most x in
          let within : m < length row = omega (arith, count) in
          let layer : List NameBytes = slice_index_or row m [] in
          let at : slice_get row m ≡ Some layer = slice_get-get_or row m [] within in
          let i : In x layer =
          In-from_Contains layer x (((is.each m layer at).holds x).1
          (Contains-from_In v.elements x element, (subst (λ j. Way v j source x) e w, fewer))) in
          let least : depth_in k row x ≤ m =
          first-least (λ layer. list_any (bytes_eq x) layer) row (k - 1) count m layer at
          ((Decides-in bytes_eq bytes_eq-Decides x layer).1 i) in
          omega arith

  depth-least : (x : NameBytes) → In x v.elements → (n : ℕ) → Way v n source x → depth_in k row x ≤ n
  depth-least x element n w = go (cases_lt n (depth_in k row x))
    where
      go : (n < depth_in k row x) ⊎ (depth_in k row x ≤ n) → depth_in k row x ≤ n
      go (inl lt) = absurd (none_before x element (depth_in k row x) (omega arith) n lt w)
      go (inr le) = le

  pub exact-source : 2 ≤ k → In source v.elements → HasSource row source
  exact-source two element =
      let within : 0 < length row = omega (arith, count) in
      let layer : List NameBytes = slice_index_or row 0 [] in
      let at : slice_get row 0 ≡ Some layer = slice_get-get_or row 0 [] within in
      let here : IsLayer v source 0 layer = is.each 0 layer at in
      let same : layer ≡ source ∷ [] =
      one_rising (number v.elements) layer (source ∷ [])
      (rising_members (number v.elements) layer here.ascending) (λ y i. absurd i, tt)
      (λ z i. inl (sym (((here.holds z).0 (Contains-from_In layer z i)).1.0)))
      (λ z i. elim i [
        | inl e ↦
            In-from_Contains layer z
            (subst (λ y. Contains layer y) (sym e)
            ((here.holds source).1 (
              Contains-from_In v.elements source element,
              (refl, λ fewer lt w. omega arith),
            )))
        | inr j ↦ absurd j
      ]) in
      at ∙ ap Some same

  pub exact-rule : AreProper v → ((cycle : List NameBytes) → IsCycle v cycle → k ≤ length cycle)
      → MeetsLayerRule v k source row
  exact-rule proper shortest = record {
    of_elements =
        All-from_members (λ x. Contains v.elements x) (row_names row)
        (λ x i. Contains-from_In v.elements x (named-far v source 0 row layers x i).0);
    once = AllPairs-from_Rising (λ a b. a ≢ b) (row_names row) (once-layers v source 0 row layers);
    gradual =
        All-from_members (λ (r : Returned). (x y : NameBytes) → HasInOrder r.names x y
        → depth_in k row y ≤ depth_in k row x + 1) v.returned
        (λ r i x y h. gradual x y (r.by, (r, Contains-from_In v.returned r i, refl, h)));
    deep = All-from_members (λ (r : Returned). (x : NameBytes) → HasInOrder r.names x source
        → k - 1 ≤ depth_in k row x) v.returned
        (λ r i x h. deep x (r.by, (r, Contains-from_In v.returned r i, refl, h)));
  }
    where
      gradual : (x y : NameBytes) → StandsBefore v x y → depth_in k row y ≤ depth_in k row x + 1
      gradual x y s = go (cases_lt (depth_in k row x) (k - 1))
        where
          go : (depth_in k row x < k - 1) ⊎ (k - 1 ≤ depth_in k row x)
              → depth_in k row y ≤ depth_in k row x + 1
          go (inl lt) = let least : depth_in k row y ≤ suc (depth_in k row x) =
              depth-least y (second-element v proper x y s) (suc (depth_in k row x)) (x, depth-way x lt, s) in
              omega arith
          go (inr ge) = let most : depth_in k row y ≤ k - 1 = depth-most y in omega arith

      deep : (x : NameBytes) → StandsBefore v x source → k - 1 ≤ depth_in k row x
      deep x s = go (cases_lt (depth_in k row x) (k - 1))
        where
          go : (depth_in k row x < k - 1) ⊎ (k - 1 ≤ depth_in k row x) → k - 1 ≤ depth_in k row x
          go (inl lt) =
              let cycle : IsCycleLength v (suc (depth_in k row x)) =
              way_back-cycle v (depth_in k row x) source (x, depth-way x lt, s) in
              let long : k ≤ length cycle.0 = shortest cycle.0 cycle.1 in
              absurd (omega (arith, cycle.2))
          go (inr ge) = ge

-- a cycle of what a row speaks of is one of all
row-stands : (version : Version) (v : Responses) (source a b : NameBytes)
    → StandsBefore (row_responses version v source) a b → StandsBefore v a b
row-stands version v source a b s = (
  s.0,
  Shows-from_ShowsIn v s.0 a b (row_shows-from version v source s.0 a b
      (ShowsIn-from_Shows (row_responses version v source) s.0 a b s.1)),
)

row-cycles : (version : Version) (v : Responses) (source : NameBytes) (k : ℕ) → IsShortestLength v k
    → (cycle : List NameBytes) → IsCycle (row_responses version v source) cycle → k ≤ length cycle
row-cycles version v source k shortest cycle is = shortest.1 cycle (record {
  some = is.some;
  shown = All-weaker (λ (p : NameBytes × NameBytes). StandsBefore (row_responses version v source) p.0 p.1)
      (λ (p : NameBytes × NameBytes). StandsBefore v p.0 p.1)
      (λ p s. row-stands version v source p.0 p.1 s) (ring cycle) is.shown;
})

-- all rows
pub exact_rows-rule : (version : Version) (v : Responses) (k : ℕ) → AreProper v → 2 ≤ k → IsShortestLength v k
    → (sources : List NameBytes) (rows : List Row) → ((x : NameBytes) → In x sources → In x v.elements) →
    AreExactRows version v k sources rows → RowsMeetRule version v k sources rows
exact_rows-rule version v k proper two shortest [] [] elements are = tt
exact_rows-rule version v k proper two shortest [] (row ∷ rows) elements are = absurd are
exact_rows-rule version v k proper two shortest (source ∷ sources) [] elements are = absurd are
exact_rows-rule version v k proper two shortest (source ∷ sources) (row ∷ rows) elements are = (
  exact-source (row_responses version v source) k source row are.0 two
      (row-element version v source (elements source (inl refl))),
  exact-rule (row_responses version v source) k source row are.0 (row-proper version v source proper)
      (row-cycles version v source k shortest),
  exact_rows-rule version v k proper two shortest sources rows (λ x i. elements x (inr i)) are.1,
)
