-- What one more place and one more list add to what stands right after each element.
use Rattle.std.proofs.Common.{◌≡◌, ℕ, ◌+◌, ◌-◌, ◌<◌, ◌≤◌, ◌⊎◌, inl, inr, List, [], length, get_or, sym, ◌∙◌}
use Rattle.std.proofs.Common.{ap, subst, arith}
use Rattle.std.specs.Prelude.{◌↔◌}
use Rattle.std.proofs.lemmas.Bool.{cases_lt}
use Rattle.std.proofs.lemmas.List.{get_or_past}
use Rattle.order_graph.specs.Lists.{row, Stands}
use Rattle.witness_order.specs.Edges.{IsNext, AreNeighbours}

-- y stands right after x in the list, at a lesser place than j
abbrev pub IsNextBelow : List ℕ → ℕ → ℕ → ℕ → Type 0
IsNextBelow list j x y = (a : IsNext list x y) × (a.place + 1 < j)

-- y stands right after x in one of the lists before l
abbrev pub AreNeighboursBelow : List (List ℕ) → ℕ → ℕ → ℕ → Type 0
AreNeighboursBelow rows l x y = (a : AreNeighbours rows x y) × (a.list < l)

-- what was listed, and what one step adds
pub both-more : {New Cur Old Below More One : Type 0} → New ↔ (Cur ⊎ One) → Cur ↔ (Old ⊎ Below)
    → More ↔ (Below ⊎ One) → New ↔ (Old ⊎ More)
both-more n c m = (
  λ h. elim (n.0 h) [
    | inl k ↦ elim (c.0 k) [ inl o ↦ inl o | inr b ↦ inr (m.1 (inl b)) ]
    | inr a ↦ inr (m.1 (inr a))
  ],
  λ s. n.1 (elim s [
    | inl o ↦ inl (c.1 (inl o))
    | inr k ↦ elim (m.0 k) [ inl b ↦ inl (c.1 (inr b)) | inr a ↦ inr a ]
  ]),
)

pub one-more : {New Cur Below More One : Type 0} → New ↔ (Cur ⊎ One) → Cur ↔ Below → More ↔ (Below ⊎ One)
    → New ↔ More
one-more n c m = (
  λ h. m.1 (elim (n.0 h) [ inl k ↦ inl (c.0 k) | inr a ↦ inr a ]),
  λ k. n.1 (elim (m.0 k) [ inl b ↦ inl (c.1 b) | inr a ↦ inr a ]),
)

pub next-more : (list : List ℕ) (j x y : ℕ) → 1 ≤ j → j < length list →
    IsNextBelow list (j + 1) x y
    ↔ (IsNextBelow list j x y ⊎ ((x ≡ get_or list (j - 1) 0) × (y ≡ get_or list j 0)))
next-more list j x y some within = (
  λ h. go h.0 h.1 (cases_lt (h.0.place + 1) j),
  λ s. elim s [
    | inl h ↦ (h.0, omega (arith, h.1))
    | inr p ↦ (
      record {
        place = j - 1;
        within = omega (arith, some, within);
        first = sym p.0;
        second = ap (λ k. get_or list k 0) (omega (arith, some)) ∙ sym p.1;
      },
      omega (arith, some),
    )
  ],
)
  where
    go : (a : IsNext list x y) → a.place + 1 < j + 1 → (a.place + 1 < j) ⊎ (j ≤ a.place + 1)
        → IsNextBelow list j x y ⊎ ((x ≡ get_or list (j - 1) 0) × (y ≡ get_or list j 0))
    go a lt (inl below) = inl (a, below)
    go a lt (inr le) = inr (
      sym a.first ∙ ap (λ k. get_or list k 0) (omega (arith, lt, le)),
      sym a.second ∙ ap (λ k. get_or list k 0) (omega (arith, lt, le)),
    )

pub neighbours-more : (rows : List (List ℕ)) (l x y : ℕ) → AreNeighboursBelow rows (l + 1) x y
    ↔ (AreNeighboursBelow rows l x y ⊎ IsNext (row rows l) x y)
neighbours-more rows l x y = (
  λ h. go h.0 h.1 (cases_lt h.0.list l),
  λ s. elim s [
    | inl h ↦ (h.0, omega (arith, h.1))
    | inr a ↦ (
      record {
        list = l;
        place = a.place;
        first = record { within = omega (arith, a.within); here = a.first };
        second = record { within = a.within; here = a.second };
      },
      omega arith,
    )
  ],
)
  where
    go : (a : AreNeighbours rows x y) → a.list < l + 1 → (a.list < l) ⊎ (l ≤ a.list)
        → AreNeighboursBelow rows l x y ⊎ IsNext (row rows l) x y
    go a lt (inl below) = inl (a, below)
    go a lt (inr le) =
        let here : a.list ≡ l = omega (arith, lt, le) in
        inr (subst (λ m. IsNext (row rows m) x y) here (record {
          place = a.place;
          within = a.second.within;
          first = a.first.here;
          second = a.second.here;
        }))

-- past the last list nothing stands
pub neighbours-all : (rows : List (List ℕ)) (l x y : ℕ) → length rows ≤ l
    → AreNeighboursBelow rows l x y ↔ AreNeighbours rows x y
neighbours-all rows l x y all =
    (λ h. h.0, λ a. (a, omega (arith, all, list-stands a.list (a.place + 1) y a.second)))
  where
    list-stands : (m p z : ℕ) → Stands rows m p z → m < length rows
    list-stands m p z h = elim (cases_lt m (length rows)) as (λ _. m < length rows) [
      | inl lt ↦ lt
      | inr past ↦
          let none : length (row rows m) ≡ 0 = ap (λ (r : List ℕ). length r) (get_or_past rows m [] past) in
          absurd (omega (arith, none, h.within))
    ]
