-- Where edges to what is taken come from what was taken earlier, so does all that a list has before it. What
-- is left when nothing is free stands after what is left.
use Rattle.std.proofs.Common.{◌≡◌, ℕ, ◌<◌, ◌≤◌, ◌⊎◌, inl, inr, Some, List, [], length, sym, ◌∙◌, arith}
use Rattle.std.proofs.Common.{ap, subst}
use Rattle.std.specs.Prelude.{slice_get}
use Rattle.std.proofs.lemmas.Bool.{cases_lt}
use Rattle.specification.specs.Responses.{Responses, AreProper}
use Rattle.specification.proofs.Members.{Before, Once, In-from_Contains, Contains-from_In, In-from_place}
use Rattle.specification.proofs.Members.{Before-from_places, places_of_Before, AllPairs-from_Once}
use Rattle.specification.proofs.Members.{Before-irreflexive, Before-trans}
use Rattle.specification.proofs.OrderOrCycle.{HasStepTo}
use Rattle.order_graph.specs.Lists.{lists_of}
use Rattle.witness_order.specs.Edges.{AreNeighbours, AreSuccessors, edges}
use Rattle.witness_order.specs.Taken.{IsTakenInTurn, AreLed}
use Rattle.witness_order.proofs.InTurn.{InTurn, Leads, ends_led}
use Rattle.witness_order.proofs.Followed.{edge_sound, list_forwards, known_below, neighbours-before}

-- what stands before a member stands at a lesser place than it
earlier_place : (xs : List ℕ) (y x p : ℕ) → Once xs → Before y x xs → slice_get xs p ≡ Some x
    → (q : ℕ) × (q < p) × (slice_get xs q ≡ Some y)
earlier_place xs y x p once h at =
    let s : (i : ℕ) × (j : ℕ) × (i < j) × (slice_get xs i ≡ Some y) × (slice_get xs j ≡ Some x) =
    places_of_Before xs y x h in
    (s.0, go s.0 s.1 s.2 s.3 (cases_lt s.0 p), s.3)
  where
    go : (i j : ℕ) → i < j → slice_get xs i ≡ Some y → (i < p) ⊎ (p ≤ i) → i < p
    go i j lt e (inl less) = less
    go i j lt e (inr le) = absurd (at_or_after i e (cases_lt p i) le)
      where
        at_or_after : (i : ℕ) → slice_get xs i ≡ Some y → (p < i) ⊎ (i ≤ p) → p ≤ i → ⊥
        at_or_after i e (inl less) le =
            Before-irreflexive x xs once
            (Before-trans x y x xs once (Before-from_places xs x y p i less at e) h)
        at_or_after i e (inr more) le =
            let here : p ≡ i = omega arith in
            let same : Some x ≡ Some y = sym at ∙ ap (slice_get xs) here ∙ e in
            let is : x ≡ y = Prim.cc in
            Before-irreflexive x xs once (subst (λ z. Before z x xs) (sym is) h)

module _ (v : Responses) (proper : AreProper v) (successors : List (List ℕ))
    (are : AreSuccessors (lists_of v) (length v.elements) successors) where
  pub taken_in_turn : (taken free degrees : List ℕ)
      → InTurn (edges successors) (length v.elements) taken free degrees → IsTakenInTurn (lists_of v) taken
  taken_in_turn taken free degrees state = record {
    once = AllPairs-from_Once taken state.taken_once;
    earlier = λ l y x p before at. earlier_place taken y x p state.taken_once
        (list_forwards (lists_of v) (length v.elements) successors are (known_below v proper) taken
        state.taken_once state.earlier l y x before (In-from_place taken p x at)) at;
  }

  pub others_led : (taken degrees : List ℕ) → InTurn (edges successors) (length v.elements) taken [] degrees
      → AreLed (lists_of v) (length v.elements) taken
  others_led taken degrees state x lt out = elim (state.parts x lt) [
    | inl i ↦ absurd (out (Contains-from_In taken x i))
    | inr i ↦ (
        let s : HasStepTo (Leads (edges successors)) state.left x =
        ends_led (edges successors) (length v.elements) taken degrees state x i in
        let two : AreNeighbours (lists_of v) s.0 x =
        edge_sound (lists_of v) (length v.elements) successors are s.0 x s.3 in
        let before = neighbours-before (lists_of v) s.0 x two in (
          s.0,
          state.left_below s.0 s.1,
          λ c. state.elsewhere s.0 (In-from_Contains taken s.0 c) s.1,
          two.list,
          before,
        )
        )
  ]
