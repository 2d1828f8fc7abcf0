-- A mark is set behind a place once all from there to the mark was passed.
use Rattle.std.proofs.Common.{◌≡◌, ℕ, ◌+◌, ◌<◌, ◌≤◌, inl, inr, List, length, get_or, set, slice_index}
use Rattle.std.proofs.Common.{sym, ap, subst, ◌∙◌, arith, get_or-set_same, get_or-set_other, vec_len}
use Rattle.std.proofs.lemmas.Bool.{cases_eq}
use Rattle.order_graph.specs.Lists.{row}
use Rattle.list_search.specs.Graph.{Graph}
use Rattle.list_search.specs.Progress.{IsAfter}
use Rattle.list_search.proofs.Places.{past_marked, row_within}
use Rattle.list_layers.specs.declared.state.State.{State}
use Rattle.list_layers.specs.Progress.{Goes, Grows, IsGood, IsSeen, StandsWithin}
use Rattle.list_layers.proofs.Growing.{grows_weaker}

module _ (g : Graph) (first l p : ℕ) (a b : State) (next longer : List ℕ) (good : IsGood g first a)
    (inside : p < length (row g.rows l)) (below : p < slice_index a.marks.items l)
    (marks : b.marks.items ≡ set a.marks.items l (p + 1)) (marks_len : vec_len b.marks ≡ vec_len a.marks)
    (seen_len : vec_len b.seen ≡ vec_len a.seen)
    (grows : Grows (StandsWithin (row g.rows l) (p + 1) (slice_index a.marks.items l)) first a.seen.items next
    b.seen.items longer) where
  within : l < length a.marks.items
  within = let listed = row_within g.rows l p inside in
      omega (arith, listed, good.fits.marks, a.marks.ok)

  here : slice_index b.marks.items l ≡ p + 1
  here = ap (λ ms. get_or ms l 0) marks ∙ get_or-set_same a.marks.items l (p + 1) 0 within

  others : (k : ℕ) → (k ≡ l → ⊥) → slice_index b.marks.items k ≡ slice_index a.marks.items k
  others k apart = ap (λ ms. get_or ms k 0) marks ∙ get_or-set_other a.marks.items l k (p + 1) 0 apart

  falls : (k : ℕ) → slice_index b.marks.items k ≤ slice_index a.marks.items k
  falls k = elim (cases_eq k l) [
    | inl e ↦
        subst (λ i. slice_index b.marks.items i ≤ slice_index a.marks.items i) (sym e)
        (omega (arith, here, below))
    | inr apart ↦ (let same = others k apart in omega (arith, same))
  ]

  pub good_swept : ((j : ℕ) → p + 1 ≤ j → j < slice_index a.marks.items l
      → first ≤ slice_index (row g.rows l) j → IsSeen b.seen.items (slice_index (row g.rows l) j))
      → IsGood g first b
  good_swept read = record {
    fits = record { marks = marks_len ∙ good.fits.marks; seen = seen_len ∙ good.fits.seen };
    marks_in = λ k. (let low = falls k in let most = good.marks_in k in omega (arith, low, most));
    covered = λ k j x past stands counts.
        past_marked g.rows a.marks.items l p x (IsSeen b.seen.items x) within
        (λ i low high stands_here.
        subst (λ y. IsSeen b.seen.items y) stands_here.here
        (read i (omega (arith, low)) high (subst (λ y. first ≤ y) (sym stands_here.here) counts)))
        (λ h i behind stands_there. grows.stays x (good.covered h i x behind stands_there counts)) k j
        (subst (λ ms. get_or ms k 0 ≤ j) marks past) stands;
  }

  pub goes_swept : Goes first (IsAfter g.rows l p) (λ k. k ≡ l) a next b longer
  goes_swept = record {
    grows = grows_weaker (StandsWithin (row g.rows l) (p + 1) (slice_index a.marks.items l))
        (IsAfter g.rows l p) first a.seen.items b.seen.items next longer
        (λ x s. record {
          later = s.0;
          in_order = (let low = s.1 in omega (arith, low));
          stands = record {
            within = (let high = s.2 in let most = good.marks_in l in omega (arith, high, most));
            here = s.3;
          };
        })
        grows;
    falls = falls;
    touched = λ k. elim (cases_eq k l) [ inl e ↦ inr e | inr apart ↦ inl (others k apart) ];
  }
