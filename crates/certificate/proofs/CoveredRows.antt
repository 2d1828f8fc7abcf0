-- Distances in responses that cover others are those in the others, also where all but some elements are left
-- out, so the rows of the ones are rows of the others.
use Rattle.std.proofs.Common.{◌≡◌, ℕ, zero, suc, List, [], ◌∷◌, refl, sym, ap, subst}
use Rattle.std.specs.Prelude.{Contains}
use Rattle.std.specs.List.Sorted.{IsStrictlyIncreasing}
use Rattle.events.specs.Names.{NameBytes}
use Rattle.specification.specs.Elements.{numbers_in}
use Rattle.specification.specs.Responses.{Responses, StandsBefore}
use Rattle.specification.specs.Versions.{two}
use Rattle.specification.specs.LayerRule.{Row, elements_from, narrowed, row_responses}
use Rattle.specification.specs.ExactRows.{Way, IsDistance, IsLayer, IsExactRow, AreExactRows}
use Rattle.specification.proofs.Narrowed.{narrowed-shows, narrowed_shows-from}
use Rattle.specification.proofs.Shown.{ShowsIn-from_Shows, Shows-from_ShowsIn}
use Rattle.order_graph.specs.Covers.{IsCoveredBy}
use Rattle.order_graph.proofs.Covers.{stands-more, stands-fewer}

-- responses that show the same elements before the same
module _ (v w : Responses) (elements : w.elements ≡ v.elements) (more : (a b : NameBytes) → StandsBefore w a b
    → StandsBefore v a b)
    (fewer : (a b : NameBytes) → StandsBefore v a b → StandsBefore w a b) where
  way-more : (n : ℕ) (a b : NameBytes) → Way w n a b → Way v n a b
  way-more zero a b e = e
  way-more (suc n) a b s = (s.0, way-more n a s.0 s.1, more s.0 b s.2)

  way-fewer : (n : ℕ) (a b : NameBytes) → Way v n a b → Way w n a b
  way-fewer zero a b e = e
  way-fewer (suc n) a b s = (s.0, way-fewer n a s.0 s.1, fewer s.0 b s.2)

  distance-more : (n : ℕ) (a b : NameBytes) → IsDistance w n a b → IsDistance v n a b
  distance-more n a b d = (way-more n a b d.0, λ less lt s. d.1 less lt (way-fewer less a b s))

  distance-fewer : (n : ℕ) (a b : NameBytes) → IsDistance v n a b → IsDistance w n a b
  distance-fewer n a b d = (way-fewer n a b d.0, λ less lt s. d.1 less lt (way-more less a b s))

  layer-more : (source : NameBytes) (n : ℕ) (layer : List NameBytes) → IsLayer w source n layer
      → IsLayer v source n layer
  layer-more source n layer is = record {
    holds = λ x. (
      λ i. (
        subst (λ es. Contains es x) elements ((is.holds x).0 i).0,
        distance-more n source x ((is.holds x).0 i).1,
      ),
      λ p. (is.holds x).1 (subst (λ es. Contains es x) (sym elements) p.0, distance-fewer n source x p.1),
    );
    ascending = subst (λ es. IsStrictlyIncreasing (numbers_in es layer)) elements is.ascending;
  }

  row-more : (k : ℕ) (source : NameBytes) (row : Row) → IsExactRow w k source row → IsExactRow v k source row
  row-more k source row is =
      record { layers = is.layers; each = λ n layer at. layer-more source n layer (is.each n layer at) }

-- what shows no more, also where all but some elements are left out
narrowed-stands : (v w : Responses) (among : List NameBytes)
    → ((a b : NameBytes) → StandsBefore v a b → StandsBefore w a b)
    → (a b : NameBytes) → StandsBefore (narrowed v among) a b → StandsBefore (narrowed w among) a b
narrowed-stands v w among leads a b s =
    let f = narrowed_shows-from v among s.0 a b (ShowsIn-from_Shows (narrowed v among) s.0 a b s.1) in
    let t : StandsBefore w a b = leads a b (s.0, Shows-from_ShowsIn v s.0 a b f.2) in (
      t.0,
      Shows-from_ShowsIn (narrowed w among) t.0 a b
          (narrowed-shows w among t.0 a b f.0 f.1 (ShowsIn-from_Shows w t.0 a b t.1)),
    )

module _ (v w : Responses) (c : IsCoveredBy v w) where
  narrowed-row : (k : ℕ) (source : NameBytes) (row : Row)
      → IsExactRow (row_responses two w source) k source row
      → IsExactRow (row_responses two v source) k source row
  narrowed-row k source row is =
      let among : List NameBytes = elements_from v.elements source in
      let same : elements_from w.elements source ≡ among = ap (λ es. elements_from es source) c.elements in
      row-more (narrowed v among) (narrowed w among) refl (narrowed-stands w v among (stands-more v w c))
      (narrowed-stands v w among (stands-fewer v w c)) k source row
      (subst (λ es. IsExactRow (narrowed w es) k source row) same is)

  rows-more : (k : ℕ) (sources : List NameBytes) (rows : List Row) → AreExactRows two w k sources rows
      → AreExactRows two v k sources rows
  rows-more k [] [] is = tt
  rows-more k [] (row ∷ rows) is = absurd is
  rows-more k (source ∷ sources) [] is = absurd is
  rows-more k (source ∷ sources) (row ∷ rows) is =
      (narrowed-row k source row is.0, rows-more k sources rows is.1)

  pub covered-rows : (k : ℕ) (rows : List Row) → AreExactRows two w k w.elements rows
      → AreExactRows two v k v.elements rows
  covered-rows k rows is =
      subst (λ es. AreExactRows two v k es rows) c.elements (rows-more k w.elements rows is)
