-- What is set back is as it was at first.
use Rattle.std.proofs.Common.{◌≡◌, ℕ, ◌<◌, inl, inr, false, List, [], length, map, get_or}
use Rattle.std.proofs.Common.{replicate, slice_index, sym, ◌∙◌, arith}
use Rattle.std.specs.Prelude.{Contains}
use Rattle.std.proofs.lemmas.Bool.{cases_Bool}
use Rattle.std.proofs.lemmas.List.{ext_get_or, get_or-map, get_or-replicate, length-map, length-replicate}
use Rattle.order_graph.specs.Lists.{row}
use Rattle.list_search.specs.Graph.{Graph}
use Rattle.list_layers.specs.declared.state.State.{State}
use Rattle.list_layers.specs.Progress.{FitsState, IsClean, IsSeen}
use Rattle.list_layers.specs.Walked.{IsRestored, IsWalked, StandsBeforeLast}

pub set_back : (g : Graph) (s m : ℕ) (layers : List (List ℕ)) (a b : State) → IsWalked g s m layers a
    → FitsState g b
    → ((x : ℕ) → IsSeen b.seen.items x → IsSeen a.seen.items x
    × ((j : ℕ) → j < m → ¬ Contains (get_or layers j []) x))
    → ((l : ℕ) → IsRestored g.rows (StandsBeforeLast m layers) a.marks.items b.marks.items l) → IsClean g b
set_back g s m layers a b is fits seen marks = record {
  marks = ext_get_or 0 b.marks.items (map (λ r. length r) g.rows)
      (omega (arith, fits.marks, b.marks.ok, length-map {B = ℕ} g.rows (λ (r : List ℕ). length r)))
      (λ l under.
      (let inside : l < length g.rows = omega (arith, under, fits.marks, b.marks.ok) in
      let end : slice_index b.marks.items l ≡ length (row g.rows l) = elim (marks l) [
        | inl done ↦ done
        | inr (same, none) ↦ elim (is.touched l) [
          | inl was ↦ same ∙ was
          | inr by ↦ absurd (none by.0 by.1 by.2)
        ]
      ] in
      end ∙ sym (get_or-map (λ (r : List ℕ). length r) g.rows l [] 0 inside)));
  seen = ext_get_or false b.seen.items (replicate g.elements false)
      (omega (arith, fits.seen, b.seen.ok, length-replicate g.elements false))
      (λ x under. elim (cases_Bool (get_or b.seen.items x false)) [
        | inl now ↦
            let left = seen x now in
            let stands = (is.seen_is x).0 left.0 in
            absurd (left.1 stands.0 stands.1 stands.2)
        | inr not ↦
            not ∙ sym (get_or-replicate g.elements x false false (omega (arith, under, fits.seen, b.seen.ok)))
      ]);
}
