-- Going along the edges of an element, one after the other.
use Rattle.std.proofs.Common.{◌≡◌, ℕ, ◌-◌, ◌<◌, ◌≤◌, ◌⊎◌, inl, inr, List, [], ◌∷◌, length, get_or, refl, sym}
use Rattle.std.proofs.Common.{◌∙◌, ap, subst, arith}
use Rattle.std.specs.Prelude.{Contains}
use Rattle.std.proofs.lemmas.List.{get_or_default}
use Rattle.specification.proofs.Members.{In, In-from_Contains, Contains-from_In, All-member}
use Rattle.order_graph.specs.Lists.{row}
use Rattle.witness_order.specs.Edges.{AreEdgesOf, AreNeighbours, edge_at, linked_from, lists_in}
use Rattle.witness_order.specs.declared.successors.Edge.{Edge}
use Rattle.witness_order.specs.declared.successors.Successors.{Successors}
use Rattle.witness_order.proofs.Linked.{linked-none, linked-step, row-linked}

module _ (rows : List (List ℕ)) (n : ℕ) (s : Successors) (are : AreEdgesOf rows n s) where
  abbrev es : List Edge
  es = s.edges.items

  abbrev of_head : ℕ → List ℕ
  of_head x = linked_from es (get_or s.heads.items x 0)

  -- the edges of x lead to what stands right after it
  pub edge-neighbours : (x y : ℕ) → Contains (of_head x) y → AreNeighbours rows x y
  edge-neighbours x y h =
      (are.successors.listed x y).0
      (subst (λ (l : List ℕ). Contains l y) (sym (row-linked es s.heads.items x)) h)

  pub neighbours-edge : (x y : ℕ) → AreNeighbours rows x y → Contains (of_head x) y
  neighbours-edge x y two =
      subst (λ (l : List ℕ). Contains l y) (row-linked es s.heads.items x)
      ((are.successors.listed x y).1 two)

  pub edge-known : (x y : ℕ) → Contains (of_head x) y → y < n
  edge-known x y h =
      All-member (λ z. z < n) (row (lists_in s) x) y (are.successors.known x)
      (In-from_Contains (row (lists_in s) x) y
      (subst (λ (l : List ℕ). Contains l y) (sym (row-linked es s.heads.items x)) h))

  -- past the last edge none is left
  pub none-left : (k y : ℕ) → k ≡ 0 → Contains (linked_from es k) y → ⊥
  none-left k y end h =
      let none : linked_from es k ≡ [] = ap (linked_from es) end ∙ linked-none es (length es) in
      In-from_Contains [] y (subst (λ (l : List ℕ). Contains l y) none h)

  -- the edge with this number
  module _ (k : ℕ) (e : Edge) (is : e ≡ get_or es (k - 1) e) (some : 0 < k) (le : k ≤ length es) where
    here : edge_at es (k - 1) ≡ e
    here =
        let within : k - 1 < length es = omega (arith, some, le) in
        sym (is ∙ get_or_default es (k - 1) e (record { to = 0; next = 0 }) within)

    step : linked_from es k ≡ e.to ∷ linked_from es e.next
    step = linked-step es k are.falling some le ∙ ap (λ (f : Edge). f.to ∷ linked_from es f.next) here

    pub next-falls : e.next < k
    next-falls =
        let within : k - 1 < length es = omega (arith, some, le) in
        let falls : (edge_at es (k - 1)).next ≤ k - 1 = are.falling (k - 1) within in
        let same : (edge_at es (k - 1)).next ≡ e.next = ap (λ (f : Edge). f.next) here in
        omega (arith, falls, same, some)

    pub first-left : Contains (linked_from es k) e.to
    first-left =
        Contains-from_In (linked_from es k) e.to (subst (λ (l : List ℕ). In e.to l) (sym step) (inl refl))

    pub rest-left : (y : ℕ) → Contains (linked_from es e.next) y → Contains (linked_from es k) y
    rest-left y h =
        Contains-from_In (linked_from es k) y
        (subst (λ (l : List ℕ). In y l) (sym step) (inr (In-from_Contains (linked_from es e.next) y h)))

    pub left-cases : (y : ℕ) → Contains (linked_from es k) y
        → (y ≡ e.to) ⊎ Contains (linked_from es e.next) y
    left-cases y h =
        elim (subst (λ (l : List ℕ). In y l) step (In-from_Contains (linked_from es k) y h)) [
          | inl same ↦ inl same
          | inr later ↦ inr (Contains-from_In (linked_from es e.next) y later)
        ]
