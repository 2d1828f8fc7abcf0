-- Whether rows meet the layer rule, steps are shown and join, and layers hold what is at a distance, is
-- computed by the words of the definitions: pairs of each response for the rule, ways of so many steps for
-- the distances.
use Rattle.std.proofs.Common.{◌≡◌, ℕ, zero, suc, ◌+◌, ◌-◌, ◌<◌, ◌≤◌, Bool, true, false, Some, List, [], ◌∷◌}
use Rattle.std.proofs.Common.{map, refl, arith, ap, subst}
use Rattle.std.specs.Prelude.{All, Contains, Decides, not, ◌&&◌, ◌||◌, nat_le, bytes_eq, slice_get}
use Rattle.std.specs.List.{list_all}
use Rattle.std.proofs.lemmas.Bool.{false≢true, and_parts, leb-true, le-leb}
use Rattle.std.proofs.lemmas.Bool.Decides.{Decides-like, Decides-and}
use Rattle.std.proofs.lemmas.Slice.Eq.{bytes_eq-Decides}
use Rattle.events.specs.Names.{NameBytes}
use Rattle.specification.specs.Responses.{Responses, Returned, HasInOrder, Shows}
use Rattle.specification.specs.Conflict.{ring, Step, AreShownSteps}
use Rattle.specification.specs.LayerRule.{Row, row_names, depth_in, row_responses, MeetsLayerRule}
use Rattle.specification.specs.Versions.{Version}
use Rattle.specification.specs.ValidCertificate.{HasSource, RowsMeetRule, RowIsRight, RowsRightBefore}
use Rattle.specification.proofs.Members.{In, Before-from_places, places_of_Before, In-from_Contains}
use Rattle.specification.proofs.Members.{Contains-from_In, All-member, All-from_members, Once-from_AllPairs}
use Rattle.specification.proofs.Members.{AllPairs-from_Once}
use Rattle.specification.proofs.Pairs.{pairs, pairs-from_Before, Before-from_pairs}
use Rattle.specification.proofs.Tests.{Decides-each, Decides-implies, is_in, Decides-in, is_once}
use Rattle.specification.proofs.Tests.{Decides-once}
use Rattle.specification.proofs.Judging.{shows, Decides-shows, are_pairs, pairs-from}

Decides-le : (m n : ℕ) → Decides (nat_le m n) (m ≤ n)
Decides-le m n = (leb-true m n, le-leb m n)

-- each pair that a list has in order
module _ (test : NameBytes × NameBytes → Bool) (P : NameBytes × NameBytes → Type 0)
    (each : (p : NameBytes × NameBytes) → Decides (test p) (P p)) where
  Decides-pairs : (w : List NameBytes)
      → Decides (list_all test (pairs w)) ((x y : NameBytes) → HasInOrder w x y → P (x, y))
  Decides-pairs w =
      Decides-like (list_all test (pairs w))
      (λ all x y h. all (x, y) (pairs-from_Before x y w (Before-from_places w x y h.0 h.1 h.2 h.3 h.4)))
      (λ all p i. all p.0 p.1 (places_of_Before w p.0 p.1 (Before-from_pairs p.0 p.1 w i)))
      (Decides-each {X = NameBytes × NameBytes} test P each (pairs w))

  Decides-responses : (v : Responses)
      → Decides (list_all (λ r. list_all test (pairs r.names)) v.returned)
      (All (λ r. (x y : NameBytes) → HasInOrder r.names x y → P (x, y)) v.returned)
  Decides-responses v =
      Decides-like (list_all (λ r. list_all test (pairs r.names)) v.returned)
      (λ all. All-from_members (λ (r : Returned). (x y : NameBytes) → HasInOrder r.names x y
      → P (x, y)) v.returned all)
      (λ all r i. All-member (λ (r : Returned). (x y : NameBytes) → HasInOrder r.names x y
      → P (x, y)) v.returned r all i)
      (Decides-each (λ (r : Returned). list_all test (pairs r.names)) (λ r. (x y : NameBytes)
      → HasInOrder r.names x y → P (x, y)) (λ r. Decides-pairs r.names) v.returned)

-- the layer rule
abbrev is_gradual : Responses → ℕ → Row → Bool
is_gradual v k row =
    list_all (λ r. list_all (λ p. nat_le (depth_in k row p.1) (depth_in k row p.0 + 1)) (pairs r.names))
    v.returned

abbrev is_deep : Responses → ℕ → NameBytes → Row → Bool
is_deep v k source row =
    list_all (λ r. list_all (λ p. not (bytes_eq p.1 source) || nat_le (k - 1) (depth_in k row p.0))
    (pairs r.names)) v.returned

abbrev pub meets_layer_rule : Responses → ℕ → NameBytes → Row → Bool
meets_layer_rule v k source row =
    list_all (λ a. is_in bytes_eq a v.elements) (row_names row) &&
    (is_once bytes_eq (row_names row) && (is_gradual v k row && is_deep v k source row))

pub Decides-layer_rule : (v : Responses) (k : ℕ) (source : NameBytes) (row : Row)
    → Decides (meets_layer_rule v k source row) (MeetsLayerRule v k source row)
Decides-layer_rule v k source row =
    Decides-like (meets_layer_rule v k source row)
    (λ m. record {
      of_elements =
          All-from_members (λ x. Contains v.elements x) (row_names row)
          (λ a i. Contains-from_In v.elements a (m.0 a i));
      once = AllPairs-from_Once (row_names row) m.1.0;
      gradual = m.1.1.0;
      deep = All-from_members (λ (r : Returned). (x : NameBytes) → HasInOrder r.names x source
          → k - 1 ≤ depth_in k row x) v.returned (λ r i x h.
          All-member (λ (r : Returned). (x y : NameBytes) → HasInOrder r.names x y → y ≡ source
          → k - 1 ≤ depth_in k row x) v.returned r m.1.1.1 i x source h refl);
    })
    (λ rule. (
      λ a i. In-from_Contains v.elements a
          (All-member (λ x. Contains v.elements x) (row_names row) a rule.of_elements i),
      (
        Once-from_AllPairs (row_names row) rule.once,
        (
          rule.gradual,
          All-from_members (λ (r : Returned). (x y : NameBytes) → HasInOrder r.names x y → y ≡ source
              → k - 1 ≤ depth_in k row x) v.returned (λ r i x y h e.
              All-member (λ (r : Returned). (x : NameBytes) → HasInOrder r.names x source
              → k - 1 ≤ depth_in k row x) v.returned r rule.deep i x
              (subst (λ z. HasInOrder r.names x z) e h)),
        ),
      ),
    ))
    (Decides-and (list_all (λ a. is_in bytes_eq a v.elements) (row_names row))
    (is_once bytes_eq (row_names row) && (is_gradual v k row && is_deep v k source row))
    (Decides-each (λ a. is_in bytes_eq a v.elements) (λ a. In a v.elements)
    (λ a. Decides-in bytes_eq bytes_eq-Decides a v.elements) (row_names row))
    (Decides-and (is_once bytes_eq (row_names row)) (is_gradual v k row && is_deep v k source row)
    (Decides-once bytes_eq bytes_eq-Decides (row_names row))
    (Decides-and (is_gradual v k row) (is_deep v k source row)
    (Decides-responses (λ p. nat_le (depth_in k row p.1) (depth_in k row p.0 + 1))
    (λ p. depth_in k row p.1 ≤ depth_in k row p.0 + 1)
    (λ p. Decides-le (depth_in k row p.1) (depth_in k row p.0 + 1)) v)
    (Decides-responses (λ p. not (bytes_eq p.1 source) || nat_le (k - 1) (depth_in k row p.0))
    (λ p. p.1 ≡ source → k - 1 ≤ depth_in k row p.0)
    (λ p. Decides-implies (bytes_eq p.1 source) (nat_le (k - 1) (depth_in k row p.0))
    (bytes_eq-Decides p.1 source) (λ e. Decides-le (k - 1) (depth_in k row p.0))) v))))

-- the source alone in the first layer
abbrev is_source : NameBytes → List NameBytes → Bool
is_source source [] = false
is_source source (a ∷ []) = bytes_eq a source
is_source source (a ∷ b ∷ layer) = false

Decides-source : (source : NameBytes) (layer : List NameBytes)
    → Decides (is_source source layer) (layer ≡ source ∷ [])
Decides-source source [] = (λ t. absurd (false≢true t), λ e. absurd Prim.cc)
Decides-source source (a ∷ []) =
    Decides-like (bytes_eq a source) (λ e. ap (λ z. z ∷ []) e) (λ e. Prim.cc) (bytes_eq-Decides a source)
Decides-source source (a ∷ b ∷ layer) = (λ t. absurd (false≢true t), λ e. absurd Prim.cc)

abbrev has_source : NameBytes → Row → Bool
has_source source [] = false
has_source source (layer ∷ row) = is_source source layer

Decides-has_source : (source : NameBytes) (row : Row) → Decides (has_source source row) (HasSource row source)
Decides-has_source source [] = (λ t. absurd (false≢true t), λ e. absurd Prim.cc)
Decides-has_source source (layer ∷ row) =
    Decides-like (is_source source layer) (λ e. ap Some e) (λ e. Prim.cc) (Decides-source source layer)

-- the row at a place is right
abbrev is_right_row : Version → Responses → ℕ → NameBytes → Row → Bool
is_right_row version v k source row =
    has_source source row && meets_layer_rule (row_responses version v source) k source row

abbrev row_is_right : Version → Responses → ℕ → List Row → ℕ → NameBytes → Bool
row_is_right version v k [] i source = false
row_is_right version v k (row ∷ rows) zero source = is_right_row version v k source row
row_is_right version v k (row ∷ rows) (suc i) source = row_is_right version v k rows i source

right_row-from : (version : Version) (v : Responses) (k : ℕ) (rows : List Row) (i : ℕ) (source : NameBytes)
    → row_is_right version v k rows i source ≡ true → RowIsRight version v k rows i source
right_row-from version v k [] i source t = absurd (false≢true t)
right_row-from version v k (row ∷ rows) zero source t =
    let p : (has_source source row ≡ true)
    × (meets_layer_rule (row_responses version v source) k source row ≡ true) = and_parts _ _ t in (
      row,
      refl,
      (Decides-has_source source row).0 p.0,
      (Decides-layer_rule (row_responses version v source) k source row).0 p.1,
    )
right_row-from version v k (row ∷ rows) (suc i) source t = right_row-from version v k rows i source t

-- of the elements from a number on, the rows of the first so many
abbrev pub are_right_rows : Version → Responses → ℕ → List NameBytes → List Row → ℕ → Bool
are_right_rows version v k sources rows zero = true
are_right_rows version v k [] rows (suc n) = true
are_right_rows version v k (source ∷ sources) [] (suc n) = false
are_right_rows version v k (source ∷ sources) (row ∷ rows) (suc n) =
    is_right_row version v k source row && are_right_rows version v k sources rows n

right_rows-from : (version : Version) (v : Responses) (k : ℕ) (sources : List NameBytes) (rows : List Row)
    (n : ℕ) → are_right_rows version v k sources rows n ≡ true →
    (j : ℕ) (source : NameBytes) → j < n → slice_get sources j ≡ Some source
    → RowIsRight version v k rows j source
right_rows-from version v k sources rows zero t j source lt e = absurd (omega arith)
right_rows-from version v k [] rows (suc n) t j source lt e = absurd Prim.cc
right_rows-from version v k (s ∷ sources) [] (suc n) t j source lt e = absurd (false≢true t)
right_rows-from version v k (s ∷ sources) (row ∷ rows) (suc n) t zero source lt e =
    let p : (is_right_row version v k s row ≡ true) × (are_right_rows version v k sources rows n ≡ true) =
    and_parts _ _ t in
    let same : s ≡ source = Prim.cc in
    right_row-from version v k (row ∷ rows) zero source
    (subst (λ z. is_right_row version v k z row ≡ true) same p.0)
right_rows-from version v k (s ∷ sources) (row ∷ rows) (suc n) t (suc j) source lt e =
    let p : (is_right_row version v k s row ≡ true) × (are_right_rows version v k sources rows n ≡ true) =
    and_parts _ _ t in
    right_rows-from version v k sources rows n p.1 j source (omega arith) e

pub rows_right_before-from : (version : Version) (v : Responses) (k : ℕ) (rows : List Row) (i : ℕ)
    → are_right_rows version v k v.elements rows i ≡ true → RowsRightBefore version v k rows i
rows_right_before-from version v k rows i t j source lt e =
    right_rows-from version v k v.elements rows i t j source lt e

-- as many rows as elements, each right
abbrev pub rows_meet_rule : Version → Responses → ℕ → List NameBytes → List Row → Bool
rows_meet_rule version v k [] [] = true
rows_meet_rule version v k [] (row ∷ rows) = false
rows_meet_rule version v k (source ∷ sources) [] = false
rows_meet_rule version v k (source ∷ sources) (row ∷ rows) =
    is_right_row version v k source row && rows_meet_rule version v k sources rows

pub rows_meet_rule-from : (version : Version) (v : Responses) (k : ℕ) (sources : List NameBytes)
    (rows : List Row) → rows_meet_rule version v k sources rows ≡ true → RowsMeetRule version v k sources rows
rows_meet_rule-from version v k [] [] t = tt
rows_meet_rule-from version v k [] (row ∷ rows) t = absurd (false≢true t)
rows_meet_rule-from version v k (source ∷ sources) [] t = absurd (false≢true t)
rows_meet_rule-from version v k (source ∷ sources) (row ∷ rows) t =
    let p : (is_right_row version v k source row ≡ true) × (rows_meet_rule version v k sources rows ≡ true) =
    and_parts _ _ t in
    let q : (has_source source row ≡ true)
    × (meets_layer_rule (row_responses version v source) k source row ≡ true) = and_parts _ _ p.0 in (
      (Decides-has_source source row).0 q.0,
      (Decides-layer_rule (row_responses version v source) k source row).0 q.1,
      rows_meet_rule-from version v k sources rows p.1,
    )

-- the steps of a certificate
abbrev pub are_shown_steps : Responses → List Step → Bool
are_shown_steps v steps =
    are_pairs (map (λ s. (s.from, s.to)) steps) (ring (map (λ s. s.from) steps)) && list_all
    (λ s. shows v s.from s.to s.shown) steps

pub shown_steps-from : (v : Responses) (steps : List Step) → are_shown_steps v steps ≡ true
    → AreShownSteps v steps
shown_steps-from v steps t =
    let p : (are_pairs (map (λ s. (s.from, s.to)) steps) (ring (map (λ s. s.from) steps)) ≡ true)
    × (list_all (λ s. shows v s.from s.to s.shown) steps ≡ true) = and_parts _ _ t in
    record {
      joined = pairs-from (map (λ s. (s.from, s.to)) steps) (ring (map (λ s. s.from) steps)) p.0;
      shown = All-from_members (λ (s : Step). Shows v s.shown s.from s.to) steps
          ((Decides-each (λ (s : Step). shows v s.from s.to s.shown) (λ s. Shows v s.shown s.from s.to)
          (λ s. Decides-shows v s.from s.to s.shown) steps).0 p.1);
    }
