-- The lists of few proper responses are few and short, and hold numbers of elements.
use Rattle.std.proofs.Common.{◌≡◌, ℕ, ◌<◌, ◌^◌, List, length, sym, ◌∙◌, ap, subst, arith}
use Rattle.std.specs.Prelude.{All, sum_by}
use Rattle.std.proofs.lemmas.List.{length-map}
use Rattle.events.specs.Names.{NameBytes}
use Rattle.events.specs.Operation.{Operation}
use Rattle.specification.specs.Elements.{numbers_in}
use Rattle.specification.specs.Responses.{Returned, AreProper, place_count}
use Rattle.order_graph.specs.Kept.{responses_kept}
use Rattle.order_graph.specs.Lists.{lists_of, row, AreFew}
use Rattle.order_graph.proofs.Shown.{known-numbers, row-le, lists-total}

module _ (names : List NameBytes) (shown : List Operation) (rows : List (List ℕ))
    (proper : AreProper (responses_kept names shown rows))
    (few : AreFew (responses_kept names shown rows)) (lists_are : lists_of (responses_kept names shown rows)
    ≡ rows) where
  pub listed-known : (l : ℕ) → All (λ x. x < length names) (row rows l)
  listed-known l =
      subst (λ (rs : List (List ℕ)). All (λ x. x < length names) (row rs l)) lists_are
      (known-numbers (responses_kept names shown rows) proper l)

  pub listed-short : (l : ℕ) → length (row rows l) < 2 ^ 32
  listed-short l =
      let total : sum_by (λ r. length r) rows ≡ place_count (responses_kept names shown rows) =
      ap (sum_by (λ (r : List ℕ). length r)) (sym lists_are)
      ∙ lists-total (responses_kept names shown rows) in
      omega (arith, total, row-le rows l, few.places)

  pub listed-few : length rows < 2 ^ 32
  listed-few =
      let same : length rows ≡ length (responses_kept names shown rows).returned =
      ap (λ (l : List (List ℕ)). length l) (sym lists_are)
      ∙ length-map {B = List ℕ} (responses_kept names shown rows).returned
      (λ (r : Returned). numbers_in names r.names) in
      omega (arith, same, few.lists)
