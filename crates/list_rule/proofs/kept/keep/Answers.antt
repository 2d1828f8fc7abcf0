use Rattle.std.proofs.Common.{ℕ, inl, inr, List, [], ◌∷◌, sym, subst}
use Rattle.std.specs.Prelude.{Contains}
use Rattle.std.proofs.lemmas.List.Elements.{Contains-append_left, Contains-push}
use Rattle.element_numbers.specs.Cuts.{rows_of}
use Rattle.list_rule.specs.Spots.{IsShownBy}
use Rattle.list_rule.proofs.kept.keep.Goals as goal

pub returns-then-is_part_of_last-clause-shown : goal.returns-then-is_part_of_last-clause-shown
returns-then-is_part_of_last-clause-shown c = λ a b shown. elim shown [
  | inl old ↦ old
  | inr new ↦
      subst (λ (l : List ℕ). IsShownBy (rows_of c.args.places.now) l a b) c.deref.ensures.value
      (c.is_part_of_last.ensures c.if-is_part_of_last.true a b new)
]

pub returns-clause-shown : goal.returns-clause-shown
returns-clause-shown c = λ a b shown.
    let before : List ℕ = c.let_go.new.kept.items in
    let list : ℕ = c.args.list in
    let pushed = c.in_ok-push.ensures.items in
    let last : Contains c.push.new.self.items list =
    subst (λ (l : List ℕ). Contains l list) (sym pushed) (Contains-push before list) in
    let old : IsShownBy (rows_of c.args.places.now) before a b
    → IsShownBy (rows_of c.args.places.now) c.push.new.self.items a b =
    λ s. (
      s.0,
      subst (λ (l : List ℕ). Contains l s.0) (sym pushed) (Contains-append_left before (list ∷ []) s.0 s.1),
      s.2,
    ) in
    elim shown [
      | inl was ↦ elim (c.let_go.ensures.shown a b was) [
        | inl still ↦ old still
        | inr new ↦ (list, last, new)
      ]
      | inr new ↦ (list, last, new)
    ]
