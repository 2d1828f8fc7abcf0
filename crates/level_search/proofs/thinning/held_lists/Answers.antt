use Rattle.std.proofs.Common.{◌≡◌, ℕ, inl, inr, false, replicate, ◌∙◌, ap, arith}
use Rattle.std.proofs.lemmas.Bool.{cases_lt}
use Rattle.std.proofs.lemmas.List.{get_or-replicate, get_or_past, length-replicate}
use Rattle.order_graph.specs.Emptied.{is_marked}
use Rattle.order_graph.specs.Lists.{lists_of}
use Rattle.level_search.proofs.ThinnedLists.{all-shown}
use Rattle.level_search.proofs.thinning.held_lists.Goals as goal

-- at first nothing is marked
none-marked : (n l : ℕ) → is_marked (replicate n false) l ≡ false
none-marked n l = elim (cases_lt l n) [
  | inl under ↦ get_or-replicate n l false false under
  | inr past ↦ get_or_past (replicate n false) l false (omega (arith, length-replicate n false))
]

pub loop-list-init : goal.loop-list-init
loop-list-init c =
    let marks = c.in_ok-marks.marks in
    let items : marks.items ≡ replicate c.lists.result false =
    c.in_ok-marks.ensures.items_if_clones_equal (λ y e. e) in
    let none : (l : ℕ) → is_marked marks.items l ≡ false = λ l.
    ap (λ m. is_marked m l) items ∙ none-marked c.lists.result l in
    record {
      count = omega (arith, c.note_places.ensures, c.in_ok-places.ensures.len, c.elements.ensures.value);
      marks = omega (arith, c.in_ok-marks.ensures.len, c.lists.ensures.value);
      last = omega arith;
      unmarked = λ m low. none m;
      kept = none 0;
      shown = all-shown (lists_of c.args.graph.now) marks.items none;
    }
