-- Layers along a table, or along lists of which some are left out, are those along all lists.
use Rattle.std.proofs.Common.{◌≡◌, ℕ, zero, suc, ◌<◌, inl, inr, Some, List, [], length, ap}
use Rattle.std.proofs.Common.{subst, ◌∙◌, arith}
use Rattle.std.proofs.lemmas.Bool.{cases_lt}
use Rattle.std.proofs.lemmas.List.{get_or_past}
use Rattle.std.proofs.lemmas.Option.{slice_get_within, slice_get-get_or, get_or_from_slice_get}
use Rattle.specification.specs.Responses.{Responses, AreProper}
use Rattle.order_graph.specs.Lists.{lists_of, row}
use Rattle.list_search.specs.Graph.{Before}
use Rattle.list_search.proofs.Joining.{before-known}
use Rattle.bit_tables.specs.Lists.{HasInOrder, IsShown}
use Rattle.bit_tables.specs.Ways as tables
use Rattle.bit_tables.proofs.WayLemmas.{row-within}
use Rattle.level_search.specs.Thinned.{IsThinned}
use Rattle.level_search.proofs.ThinnedLists.{before-thinned, before-whole, thinned-elements}
use Rattle.list_layers.specs.Ways.{IsStep, Way, IsDistance, IsLayerAt}
use Rattle.certificate.specs.AfterTables.{IsAfterTable}

-- the same numbers by two conditions
those_same : (P Q : ℕ → Type 0) (n : ℕ) (xs : List ℕ) → ((x : ℕ) → x < n → P x → Q x)
    → ((x : ℕ) → x < n → Q x → P x) → tables.AreThoseBelow P n xs → tables.AreThoseBelow Q n xs
those_same P Q n xs to from are = record {
  has = λ x. (
    λ c. (let p = (are.has x).0 c in (p.0, to x p.0 p.1)),
    λ p. (are.has x).1 (p.0, from x p.0 p.1),
  );
  rising = are.rising;
}

shown-before : (v : Responses) (a b : ℕ) → IsShown (lists_of v) a b → Before (lists_of v) a b
shown-before v a b t =
    let w = row (lists_of v) t.0 in
    let s : HasInOrder w a b = t.2 in
    record {
      list = t.0;
      place = s.0;
      later = s.1;
      in_order = s.2;
      first = record { within = slice_get_within w s.0 a s.3; here = get_or_from_slice_get w s.0 a 0 s.3 };
      second = record { within = slice_get_within w s.1 b s.4; here = get_or_from_slice_get w s.1 b 0 s.4 };
    }

before-shown : (v : Responses) (a b : ℕ) → Before (lists_of v) a b → IsShown (lists_of v) a b
before-shown v a b t =
    let w = row (lists_of v) t.list in (
      t.list,
      elim (cases_lt t.list (length (lists_of v))) [
        | inl within ↦ within
        | inr past ↦
            let none : length w ≡ 0 = ap length (get_or_past (lists_of v) t.list [] past) in
            let some = t.first.within in
            absurd (omega (arith, none, some))
      ],
      (
        t.place,
        t.later,
        t.in_order,
        slice_get-get_or w t.place 0 t.first.within ∙ ap Some t.first.here,
        slice_get-get_or w t.later 0 t.second.within ∙ ap Some t.second.here,
      ),
    )

module _ (v : Responses) (proper : AreProper v) (rows : List (List ℕ)) (table : IsAfterTable v rows) (s : ℕ)
  where
    way-along : (j x : ℕ) → x < length v.elements → tables.Way rows s j s x → Way (lists_of v) s j x
    way-along zero x lt way = way
    way-along (suc j) x lt way =
        let c : ℕ = way.0 in
        let within : c < length v.elements =
        (let low = row-within rows c x way.2.has in omega (arith, low, table.len)) in
        let step : IsStep (lists_of v) s c x = record {
          from = way.2.from;
          to = way.2.to;
          shown = shown-before v c x ((table.shown c x within lt).0 way.2.has);
        } in
        (c, way-along j c within way.1, step)

    way-across : (j x : ℕ) → x < length v.elements → Way (lists_of v) s j x → tables.Way rows s j s x
    way-across zero x lt way = way
    way-across (suc j) x lt way =
        let c : ℕ = way.0 in
        let within : c < length v.elements = (before-known v proper c x way.2.shown).0 in
        let step : tables.IsStep rows s c x = record {
          from = way.2.from;
          to = way.2.to;
          has = (table.shown c x within lt).1 (before-shown v c x way.2.shown);
        } in
        (c, way-across j c within way.1, step)

    -- a layer along the table is one along the lists
    pub table_layer : (d : ℕ) (layer : List ℕ) → tables.IsLayerAt (length v.elements) rows s s d layer
        → IsLayerAt (length v.elements) (lists_of v) s d layer
    table_layer d layer is =
        those_same (tables.IsDistance rows s d s) (IsDistance (lists_of v) s d) (length v.elements) layer
        (λ x lt near. record {
          way = way-along d x lt near.way;
          shortest = λ fewer less way. near.shortest fewer less (way-across fewer x lt way);
        })
        (λ x lt near. record {
          way = way-across d x lt near.way;
          shortest = λ fewer less way. near.shortest fewer less (way-along fewer x lt way);
        }) is

-- lists that show no more
way-more : (lists other : List (List ℕ)) → ((a b : ℕ) → Before lists a b → Before other a b) → (s j x : ℕ)
    → Way lists s j x → Way other s j x
way-more lists other more s zero x way = way
way-more lists other more s (suc j) x way =
    let step : IsStep other s way.0 x =
    record { from = way.2.from; to = way.2.to; shown = more way.0 x way.2.shown } in
    (way.0, way-more lists other more s j way.0 way.1, step)

-- a layer along the lists that are left is one along all
pub thinned_layer : (v t : Responses) → IsThinned v t → (s d : ℕ) (layer : List ℕ)
    → IsLayerAt (length t.elements) (lists_of t) s d layer
    → IsLayerAt (length v.elements) (lists_of v) s d layer
thinned_layer v t thin s d layer is =
    let to = way-more (lists_of t) (lists_of v) (before-whole v t thin) s in
    let from = way-more (lists_of v) (lists_of t) (before-thinned v t thin) s in
    subst (λ n. IsLayerAt n (lists_of v) s d layer) (ap (λ es. length es) (thinned-elements v t thin))
    (those_same (IsDistance (lists_of t) s d) (IsDistance (lists_of v) s d) (length t.elements) layer
    (λ x lt near. record {
      way = to d x near.way;
      shortest = λ fewer less way. near.shortest fewer less (from fewer x way);
    })
    (λ x lt near. record {
      way = from d x near.way;
      shortest = λ fewer less way. near.shortest fewer less (to fewer x way);
    }) is)
