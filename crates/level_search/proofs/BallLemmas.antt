-- Layers of a search over a table.
use Rattle.std.proofs.Common.{◌≡◌, ℕ, zero, suc, ◌+◌, ◌<◌, ◌≤◌, ◌⊎◌, List, add-one, inl, inr, sym, subst}
use Rattle.std.proofs.Common.{arith}
use Rattle.std.specs.Prelude.{◌↔◌}
use Rattle.std.proofs.lemmas.Bool.{cases_lt}
use Rattle.bit_tables.specs.Sets.{Has}
use Rattle.bit_tables.proofs.SetLemmas.{Has-either}
use Rattle.bit_tables.specs.Lists.{row_of}
use Rattle.level_search.specs.Tables.{IsShown, IsBeforeTable}
use Rattle.level_search.specs.Balls.{IsAtLevel, IsInLayer}
use Rattle.list_search.specs.Graph.{Before}
use Rattle.list_search.specs.Rings.{Reaches}
use Rattle.list_search.specs.Walks.{HasCycle}
use Rattle.level_search.specs.declared.tabled.sets.Sets.{Sets}
use Rattle.list_search.proofs.Firsts.{reaches_walk, walk_reaches}

-- what stands before what, told by either crate
pub before_shown : (rows : List (List ℕ)) (a b : ℕ) → Before rows a b → IsShown rows a b
before_shown rows a b before = (
  before.list,
  record {
    place = before.place;
    later = before.later;
    in_order = before.in_order;
    first = before.first;
    second = before.second;
  },
)

pub shown_before : (rows : List (List ℕ)) (a b : ℕ) → IsShown rows a b → Before rows a b
shown_before rows a b (l, s) =
    record {
      list = l;
      place = s.place;
      later = s.later;
      in_order = s.in_order;
      first = s.first;
      second = s.second;
    }

module _ (n : ℕ) (rows table : List (List ℕ)) (is : IsBeforeTable n rows table) (known : (a b : ℕ)
    → Before rows a b → (a < n) × (b < n)) (s : ℕ) where
  -- from an element of the layer exactly as many steps as the level lead to s
  pub layer_reaches : (level : ℕ) (sets : Sets) → IsAtLevel rows s level sets → (x : ℕ) → IsInLayer n sets x
      → Reaches rows s level x
  layer_reaches level sets at x layer =
      let r = (at.reached x).0 layer.reached in
      elim (cases_lt r.0 level) [
        | inl less ↦ absurd (layer.not_near ((at.near x).1 (r.0, less, r.2)))
        | inr more ↦ let e : r.0 ≡ level = let lt = r.1 in omega arith in
            subst (λ m. Reaches rows s m x) e r.2
      ]

  -- fewer steps than the level lead from x to s
  abbrev pub IsNearer : ℕ → ℕ → Type 0
  IsNearer level x = (m : ℕ) × (m < level) × Reaches rows s m x

  pub layer_or_near : (level : ℕ) (sets : Sets) → IsAtLevel rows s level sets → (x : ℕ) → x < n
      → Reaches rows s level x → IsInLayer n sets x ⊎ IsNearer level x
  layer_or_near level sets at x low reaches = elim (Has-either sets.near x) [
    | inl near ↦ inr ((at.near x).0 near)
    | inr not_near ↦
        inl (record {
          known = low;
          reached = (at.reached x).1 (level, (omega arith), reaches);
          not_near = not_near;
        })
  ]

  cycle_of : (m x : ℕ) → Before rows s x → Reaches rows s m x → HasCycle rows s (suc m)
  cycle_of m x before reaches = ((omega arith), walk_reaches rows s (suc m) s (x, before, reaches))

  pub cycle_closes : (level : ℕ) (sets : Sets) → IsAtLevel rows s level sets → (x : ℕ) → IsInLayer n sets x
      → Has (row_of table x) s → HasCycle rows s (level + 1)
  cycle_closes level sets at x layer has =
      subst (HasCycle rows s) (sym (add-one level))
      (cycle_of level x (shown_before rows s x ((is.shown s x layer.known).0 has))
      (layer_reaches level sets at x layer))

  pub cycle_longer : (level : ℕ) (sets : Sets) → IsAtLevel rows s level sets
      → ((x : ℕ) → IsInLayer n sets x → ¬ Has (row_of table x) s)
      → (m : ℕ) → HasCycle rows s m → level + 1 < m
  cycle_longer level sets at missed m cycle = elim (cases_lt (level + 1) m) [
    | inl lt ↦ lt
    | inr le ↦
        let e : m ≡ suc level = let long = at.long m cycle in omega arith in
        let walk : Reaches rows s (suc level) s =
        subst (λ k. Reaches rows s k s) e (reaches_walk rows s m s cycle.1) in
        let low = (known s walk.0 walk.1).1 in
        elim (layer_or_near level sets at walk.0 low walk.2) [
          | inl layer ↦
              absurd (missed walk.0 layer ((is.shown s walk.0 low).1 (before_shown rows s walk.0 walk.1)))
          | inr nearer ↦
              absurd (let long = at.long (suc nearer.0) (cycle_of nearer.0 walk.0 walk.1 nearer.2) in
              let lt = nearer.1 in omega arith)
        ]
  ]

  pub level_next : (level : ℕ) (old new : Sets) → IsAtLevel rows s level old
      → ((x : ℕ) → IsInLayer n old x → ¬ Has (row_of table x) s)
      → ((x : ℕ) → Has new.near x ↔ (Has old.near x ⊎ Has old.reached x))
      → ((y : ℕ)
      → Has new.reached y ↔ (Has old.reached y ⊎ ((x : ℕ) × IsInLayer n old x × Has (row_of table x) y)))
      → IsAtLevel rows s (level + 1) new
  level_next level old new at missed near reached = record {
    near = λ x. (
      λ has. elim ((near x).0 has) [
        | inl was ↦ let m = (at.near x).0 was in (m.0, (let lt = m.1 in omega arith), m.2)
        | inr was ↦ (at.reached x).0 was
      ],
      λ m. (near x).1 (inr ((at.reached x).1 m)),
    );
    reached = λ y. (
      λ has. elim ((reached y).0 has) [
        | inl was ↦ let m = (at.reached y).0 was in (m.0, (let lt = m.1 in omega arith), m.2)
        | inr step ↦ (
          suc level,
          (omega arith),
          (
            step.0,
            shown_before rows y step.0 ((is.shown y step.0 step.1.known).0 step.2),
            layer_reaches level old at step.0 step.1,
          ),
        )
      ],
      λ m. (reached y).1 (elim (cases_lt m.0 (level + 1)) [
        | inl lt ↦ inl ((at.reached y).1 (m.0, lt, m.2))
        | inr ge ↦
            let e : m.0 ≡ suc level = let lt = m.1 in omega arith in
            let walk : Reaches rows s (suc level) y = subst (λ k. Reaches rows s k y) e m.2 in
            let low = (known y walk.0 walk.1).1 in
            elim (layer_or_near level old at walk.0 low walk.2) [
              | inl layer ↦ inr (walk.0, layer, (is.shown y walk.0 low).1 (before_shown rows y walk.0 walk.1))
              | inr nearer ↦
                  inl ((at.reached y).1 (
                    suc nearer.0,
                    (let lt = nearer.1 in omega arith),
                    (walk.0, walk.1, nearer.2),
                  ))
            ]
      ]),
    );
    long = cycle_longer level old at missed;
  }

  -- where the layer is empty, all from which steps lead to s are near
  nearer : (level : ℕ) (sets : Sets) → IsAtLevel rows s level sets
      → ((x : ℕ) → Has sets.reached x → Has sets.near x)
      → (m x : ℕ) → Reaches rows s m x → IsNearer level x
  nearer level sets at all zero x here = (at.near x).0 (all x ((at.reached x).1 (0, (omega arith), here)))
  nearer level sets at all (suc m) x walk =
      let on = nearer level sets at all m walk.0 walk.2 in
      (at.near x).0
      (all x ((at.reached x).1 (suc on.0, (let lt = on.1 in omega arith), (walk.0, walk.1, on.2))))

  pub no_cycle_left : (level : ℕ) (sets : Sets) → IsAtLevel rows s level sets
      → ((x : ℕ) → Has sets.reached x → Has sets.near x) → (m : ℕ) → ¬ HasCycle rows s m
  no_cycle_left level sets at all zero cycle = let some = cycle.0 in omega arith
  no_cycle_left level sets at all (suc m) cycle =
      let walk : Reaches rows s (suc m) s = reaches_walk rows s (suc m) s cycle.1 in
      let on = nearer level sets at all m walk.0 walk.2 in
      let long = at.long (suc on.0) (cycle_of on.0 walk.0 walk.1 on.2) in
      let lt = on.1 in
      omega arith

-- one element of the layer more: between the last bound and it there is none
pub layer_from : (from x : ℕ) (sets : Sets) → from ≤ x
    → ((y : ℕ) → from ≤ y → y < x → Has sets.reached y → Has sets.near y)
    → (y : ℕ) → IsInLayer (x + 1) sets y → ¬ (y ≡ x) → IsInLayer from sets y
layer_from from x sets le none y layer apart = elim (cases_lt y from) [
  | inl low ↦ record { known = low; reached = layer.reached; not_near = layer.not_near }
  | inr high ↦ absurd (layer.not_near (none y high (let k = layer.known in omega arith) layer.reached))
]

pub layer_to : (from more : ℕ) (sets : Sets) (y : ℕ) → from ≤ more → IsInLayer from sets y
    → IsInLayer more sets y
layer_to from more sets y le layer =
    record {
      known = (let k = layer.known in omega arith);
      reached = layer.reached;
      not_near = layer.not_near;
    }
