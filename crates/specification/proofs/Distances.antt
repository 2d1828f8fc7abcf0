-- Whether rows are the ones that are written, each layer holding the elements at its distance from the
-- source, is computed: a way of n steps by its last step and a way of n - 1 steps, over all elements.
use Rattle.std.proofs.Common.{◌≡◌, ℕ, zero, suc, ◌+◌, ◌-◌, ◌<◌, ◌≤◌, Bool, true, false, Some, List, [], ◌∷◌}
use Rattle.std.proofs.Common.{length, arith, subst}
use Rattle.std.specs.Prelude.{Decides, not, ◌&&◌, ◌||◌, ◌==◌, nat_lt, bytes_eq, slice_get, slice_index}
use Rattle.std.specs.List.{list_all, list_any}
use Rattle.std.proofs.lemmas.Bool.{false≢true, and_parts, eqb-true, ltb-true}
use Rattle.std.proofs.lemmas.Bool.Decides.{Decides-like, Decides-and, Decides-not}
use Rattle.std.proofs.lemmas.Slice.Eq.{bytes_eq-Decides}
use Rattle.events.specs.Names.{NameBytes}
use Rattle.events.specs.Operations.{numbers_from}
use Rattle.specification.specs.Elements.{numbers_in}
use Rattle.specification.specs.Responses.{Responses, StandsBefore, AreProper}
use Rattle.specification.specs.LayerRule.{Row, row_responses}
use Rattle.specification.specs.Versions.{Version}
use Rattle.specification.specs.ExactRows.{Way, IsDistance, IsLayer, AreExactRows}
use Rattle.specification.proofs.Members.{In, Before-first, In-from_Contains, Contains-from_In}
use Rattle.specification.proofs.Shown.{ShowsIn, ShowsIn-from_Shows, names-elements}
use Rattle.specification.proofs.Narrowed.{row-proper}
use Rattle.specification.proofs.OperationNames.{In-numbers_from, numbers_from-bounds}
use Rattle.specification.proofs.Tests.{Decides-each, Decides-some, Decides-implies, is_in, Decides-in}
use Rattle.specification.proofs.Judging.{stands_before, Decides-stands_before}

abbrev has_way : Responses → ℕ → NameBytes → NameBytes → Bool
has_way v zero a b = bytes_eq a b
has_way v (suc n) a b = list_any (λ c. has_way v n a c && stands_before v c b) v.elements

abbrev is_distance : Responses → ℕ → NameBytes → NameBytes → Bool
is_distance v n a b = has_way v n a b && list_all (λ m. not (has_way v m a b)) (numbers_from 0 n)

abbrev is_layer : Responses → NameBytes → ℕ → List NameBytes → Bool
is_layer v source n layer =
    list_all (λ x. is_in bytes_eq x v.elements && is_distance v n source x) layer
    && (list_all (λ x. not (is_distance v n source x) || is_in bytes_eq x layer) v.elements
    && list_all
    (λ k. nat_lt (slice_index (numbers_in v.elements layer) k)
    (slice_index (numbers_in v.elements layer) (k + 1)))
    (numbers_from 0 (length (numbers_in v.elements layer) - 1)))

-- the layers from a distance on
abbrev are_layers : Responses → NameBytes → ℕ → Row → Bool
are_layers v source n [] = true
are_layers v source n (layer ∷ row) = is_layer v source n layer && are_layers v source (suc n) row

abbrev pub are_exact_rows : Version → Responses → ℕ → List NameBytes → List Row → Bool
are_exact_rows version v k [] [] = true
are_exact_rows version v k [] (row ∷ rows) = false
are_exact_rows version v k (source ∷ sources) [] = false
are_exact_rows version v k (source ∷ sources) (row ∷ rows) =
    ((length row + 1 == k) && are_layers (row_responses version v source) source 0 row) && are_exact_rows
    version v k sources rows

module _ (v : Responses) (proper : AreProper v) where
  before-element : (a b : NameBytes) → StandsBefore v a b → In a v.elements
  before-element a b k = let s : ShowsIn v k.0 a b = ShowsIn-from_Shows v k.0 a b k.1 in
      names-elements v proper s.0 s.1 a (Before-first a b s.0.names s.3)

  Decides-way : (n : ℕ) (a b : NameBytes) → Decides (has_way v n a b) (Way v n a b)
  Decides-way zero a b = bytes_eq-Decides a b
  Decides-way (suc n) a b =
      Decides-like (has_way v (suc n) a b) (λ s. (s.0, s.2.0, s.2.1))
      (λ w. (w.0, before-element w.0 b w.2, (w.1, w.2)))
      (Decides-some (λ c. has_way v n a c && stands_before v c b) (λ c. Way v n a c × StandsBefore v c b)
      (λ c. Decides-and (has_way v n a c) (stands_before v c b) (Decides-way n a c)
      (Decides-stands_before v c b)) v.elements)

  Decides-distance : (n : ℕ) (a b : NameBytes) → Decides (is_distance v n a b) (IsDistance v n a b)
  Decides-distance n a b =
      Decides-like (is_distance v n a b)
      (λ d. (d.0, λ m lt. d.1 m (In-numbers_from 0 n m (omega arith) (omega arith))))
      (λ d. (
        d.0,
        λ m i. d.1 m (let bounds : (0 ≤ m) × (m < 0 + n) = numbers_from-bounds 0 n m i in
            omega (arith, bounds.1)),
      ))
      (Decides-and (has_way v n a b) (list_all (λ m. not (has_way v m a b)) (numbers_from 0 n))
      (Decides-way n a b)
      (Decides-each (λ m. not (has_way v m a b)) (λ m. Way v m a b → ⊥)
      (λ m. Decides-not (has_way v m a b) (Decides-way m a b)) (numbers_from 0 n)))

  layer-from : (source : NameBytes) (n : ℕ) (layer : List NameBytes) → is_layer v source n layer ≡ true
      → IsLayer v source n layer
  layer-from source n layer t = record {
    holds = λ x. (
      λ c. (let h : In x v.elements × IsDistance v n source x =
          (Decides-each (λ x. is_in bytes_eq x v.elements && is_distance v n source x)
          (λ x. In x v.elements × IsDistance v n source x)
          (λ x. Decides-and (is_in bytes_eq x v.elements) (is_distance v n source x)
          (Decides-in bytes_eq bytes_eq-Decides x v.elements) (Decides-distance n source x)) layer).0
          (and_parts _ _ t).0 x (In-from_Contains layer x c) in (Contains-from_In v.elements x h.0, h.1)),
      λ h. Contains-from_In layer x
          ((Decides-each (λ x. not (is_distance v n source x) || is_in bytes_eq x layer)
          (λ x. IsDistance v n source x → In x layer)
          (λ x. Decides-implies (is_distance v n source x) (is_in bytes_eq x layer)
          (Decides-distance n source x) (λ _. Decides-in bytes_eq bytes_eq-Decides x layer)) v.elements).0
          (and_parts _ _ (and_parts _ _ t).1).0 x (In-from_Contains v.elements x h.0) h.1),
    );
    ascending = λ k lt.
        ltb-true (slice_index (numbers_in v.elements layer) k)
        (slice_index (numbers_in v.elements layer) (k + 1))
        ((Decides-each (rises layer) (λ k. rises layer k ≡ true) (λ k. (λ e. e, λ e. e))
        (numbers_from 0 (length (numbers_in v.elements layer) - 1))).0
        (and_parts _ _ (and_parts _ _ t).1).1 k
        (In-numbers_from 0 (length (numbers_in v.elements layer) - 1) k (omega arith)
        (omega (arith, lt))));
  }
    where
      rises : List NameBytes → ℕ → Bool
      rises layer k =
          nat_lt (slice_index (numbers_in v.elements layer) k)
          (slice_index (numbers_in v.elements layer) (k + 1))

  layers-from : (source : NameBytes) (from : ℕ) (row : Row) → are_layers v source from row ≡ true
      → (n : ℕ) (layer : List NameBytes) → slice_get row n ≡ Some layer → IsLayer v source (from + n) layer
  layers-from source from [] t n layer e = absurd Prim.cc
  layers-from source from (l ∷ row) t zero layer e =
      let same : l ≡ layer = Prim.cc in
      let at : from ≡ from + 0 = omega arith in
      subst (λ m. IsLayer v source m layer) at
      (subst (λ z. IsLayer v source from z) same (layer-from source from l (and_parts _ _ t).0))
  layers-from source from (l ∷ row) t (suc n) layer e =
      let at : suc from + n ≡ from + suc n = omega arith in
      subst (λ m. IsLayer v source m layer) at
      (layers-from source (suc from) row (and_parts _ _ t).1 n layer e)

pub exact_rows-from : (version : Version) (v : Responses) → AreProper v
    → (k : ℕ) (sources : List NameBytes) (rows : List Row) → are_exact_rows version v k sources rows ≡ true →
    AreExactRows version v k sources rows
exact_rows-from version v proper k [] [] t = tt
exact_rows-from version v proper k [] (row ∷ rows) t = absurd (false≢true t)
exact_rows-from version v proper k (source ∷ sources) [] t = absurd (false≢true t)
exact_rows-from version v proper k (source ∷ sources) (row ∷ rows) t =
    let p : (((length row + 1 == k) && are_layers (row_responses version v source) source 0 row) ≡ true)
    × (are_exact_rows version v k sources rows ≡ true) = and_parts _ _ t in
    let q : ((length row + 1 == k) ≡ true)
    × (are_layers (row_responses version v source) source 0 row ≡ true) = and_parts _ _ p.0 in (
      record {
        layers = eqb-true (length row + 1) k q.0;
        each = λ n layer e. from_zero (layers-from (row_responses version v source)
            (row-proper version v source proper) source 0 row q.1 n layer e);
      },
      exact_rows-from version v proper k sources rows p.1,
    )
  where
    from_zero : {n : ℕ} {layer : List NameBytes}
        → IsLayer (row_responses version v source) source (0 + n) layer
        → IsLayer (row_responses version v source) source n layer
    from_zero {n = n} {layer = layer} is = let at : 0 + n ≡ n = omega arith in
        subst (λ m. IsLayer (row_responses version v source) source m layer) at is
