-- Layers of numbers, one after the other.
use Rattle.std.proofs.Common.{◌≡◌, ℕ, ◌+◌, ◌-◌, ◌<◌, ◌≤◌, ◌⊎◌, ◌∙◌, Bool, true, false, not, List, [], length}
use Rattle.std.proofs.Common.{map, get_or, ap, sym, refl, inl, inr, arith, true≢false}
use Rattle.std.specs.Prelude.{◌↔◌, All, Contains, IsTrue}
use Rattle.std.proofs.lemmas.Bool.{cases_eq, cases_lt}
use Rattle.std.proofs.lemmas.List.{get_or-map, get_or_past, get_or_default}
use Rattle.std.proofs.lemmas.List.Elements.{All-map}
use Rattle.bit_tables.specs.Sets.{Has}
use Rattle.bit_tables.specs.Lists.{row_of, IsShown, IsTableOf}
use Rattle.bit_tables.specs.Rule.{StandsBelow, AreDepths, MeetsRule}

-- one of the first i places of the list has x
abbrev pub IsAmongFirst : ℕ → List ℕ → ℕ → Type 0
IsAmongFirst i w x = (k : ℕ) × (k < i) × (get_or w k x ≡ x)

-- what is known of the first m layers: the numbers below the first that counts are among those that stand; of
-- those that are shown from the least on
pub record IsTested (first least m : ℕ) (layers rows : List (List ℕ)) (standing shown : List ℕ) : Type 0 where
  pub standing_is : (y : ℕ) → Has standing y ↔ ((y < first) ⊎ StandsBelow m layers y)
  pub shown_is : (y : ℕ) → least ≤ y
      → Has shown y ↔ ((x : ℕ) × StandsBelow m layers x × Has (row_of rows x) y)
  pub gradual : (j x y : ℕ) → j < m → StandsBelow j layers x → Has (row_of rows x) y → first ≤ y
      → StandsBelow (j + 1) layers y

-- the row of one number more
pub successors_step : (rows : List (List ℕ)) (w : List ℕ) (i : ℕ) (old into new row : List ℕ) → i < length w
    → row ≡ row_of rows (get_or w i 0)
    → (least : ℕ)
    → ((y : ℕ) → least ≤ y
    → Has into y ↔ (Has old y ⊎ ((x : ℕ) × IsAmongFirst i w x × Has (row_of rows x) y)))
    → ((y : ℕ) → least ≤ y → Has new y ↔ (Has into y ⊎ Has row y))
    → (y : ℕ) → least ≤ y
    → Has new y ↔ (Has old y ⊎ ((x : ℕ) × IsAmongFirst (i + 1) w x × Has (row_of rows x) y))
successors_step rows w i old into new row within is least before grown y from =
    let first : ℕ = get_or w i 0 in (
      λ has. elim ((grown y from).0 has) [
        | inl was ↦
            elim ((before y from).0 was) [
              | inl o ↦ inl o
              | inr s ↦ inr (s.0, (s.1.0, (omega arith), s.1.2), s.2)
            ]
        | inr here ↦ inr (first, (i, (omega arith), get_or_default w i first 0 within), rw is at here)
      ],
      λ h. (grown y from).1
          (elim h [
            | inl o ↦ inl ((before y from).1 (inl o))
            | inr s ↦
                elim (cases_eq s.1.0 i) [
                  | inl last ↦
                      let at : get_or w i s.0 ≡ s.0 = ap (λ k. get_or w k s.0) (sym last) ∙ s.1.2 in
                      let same : first ≡ s.0 = get_or_default w i 0 s.0 within ∙ at in
                      inr (rw (is, same) s.2)
                  | inr past ↦ inl ((before y from).1 (inr (s.0, (s.1.0, (omega arith), s.1.2), s.2)))
                ]
          ]),
    )

-- a number more whose row is among what was added: the number at the place before has all of it
pub successors_skipped : (rows : List (List ℕ)) (w : List ℕ) (i : ℕ) (old into : List ℕ) → i < length w
    → 0 < i
    → ((y : ℕ) → Has (row_of rows (get_or w i 0)) y → Has (row_of rows (get_or w (i - 1) 0)) y)
    → (least : ℕ)
    → ((y : ℕ) → least ≤ y
    → Has into y ↔ (Has old y ⊎ ((x : ℕ) × IsAmongFirst i w x × Has (row_of rows x) y)))
    → (y : ℕ) → least ≤ y
    → Has into y ↔ (Has old y ⊎ ((x : ℕ) × IsAmongFirst (i + 1) w x × Has (row_of rows x) y))
successors_skipped rows w i old into within later included least before =
    let last : ℕ = get_or w (i - 1) 0 in
    let there : get_or w (i - 1) last ≡ last = get_or_default w (i - 1) last 0 (omega arith) in
    successors_step rows w i old into into (row_of rows (get_or w i 0)) within refl least before
    (λ y from. (
      λ has. inl has,
      λ h. elim h [
        | inl has ↦ has
        | inr here ↦ (before y from).1 (inr (last, (i - 1, (omega arith), there), included y here))
      ],
    ))

-- what is known of what has lists, of the lists
module _ {V : Type 0} (list : V → List ℕ) (vs : List V) where
  pub list-here : (i : ℕ) (v : V) → i < length vs → v ≡ get_or vs i v → get_or (map list vs) i [] ≡ list v
  list-here i v within is = get_or-map list vs i v [] within ∙ ap list (sym is)

  pub all-within : (n : ℕ) → All (λ v. All (λ x. x < n) (list v)) vs
      → All (λ l. All (λ x. x < n) l) (map list vs)
  all-within n h = All-map (λ l. All (λ x. x < n) l) list vs h

  pub all-from : (first : ℕ) → All (λ v. All (λ x. first ≤ x) (list v)) vs
      → All (λ l. All (λ x. first ≤ x) l) (map list vs)
  all-from first h = All-map (λ l. All (λ x. first ≤ x) l) list vs h

stands_more : (m : ℕ) (layers : List (List ℕ)) (x : ℕ) → StandsBelow (m + 1) layers x
    → StandsBelow m layers x ⊎ Contains (get_or layers m []) x
stands_more m layers x s =
    elim (cases_eq s.0 m) [
      | inl last ↦ inr (rw last at s.2)
      | inr before ↦ inl (s.0, (omega arith), s.2)
    ]

stands_before : (m j : ℕ) (layers : List (List ℕ)) (x : ℕ) → m ≤ j → StandsBelow m layers x
    → StandsBelow j layers x
stands_before m j layers x le s = (s.0, (omega arith), s.2)

-- what stands in layers of numbers below n is below n
stands_within : (n : ℕ) (layers : List (List ℕ)) → All (λ layer. All (λ x. x < n) layer) layers → (m x : ℕ)
    → StandsBelow m layers x → x < n
stands_within n layers ok m x (i, low, (k, inside, at)) =
    elim (cases_lt i (length layers)) [
      | inl within ↦ let small : get_or (get_or layers i []) k x < n = ok i [] within k x inside in
          omega arith
      | inr past ↦
          let none : length (get_or layers i []) ≡ 0 = ap length (get_or_past layers i [] past) in
          absurd (omega arith)
    ]

-- what stands in layers of numbers from a first one on is not below it
stands_from : (first : ℕ) (layers : List (List ℕ)) → All (λ layer. All (λ x. first ≤ x) layer) layers
    → (m x : ℕ) → StandsBelow m layers x → first ≤ x
stands_from first layers ok m x (i, low, (k, inside, at)) =
    elim (cases_lt i (length layers)) [
      | inl within ↦ let high : first ≤ get_or (get_or layers i []) k x = ok i [] within k x inside in
          omega arith
      | inr past ↦
          let none : length (get_or layers i []) ≡ 0 = ap length (get_or_past layers i [] past) in
          absurd (omega arith)
    ]

-- one layer more that has no number: nothing more is shown from the least on, and so it is in the set if what
-- was shown before is
pub settled_step : (rows : List (List ℕ)) (layer shown shown' standing : List ℕ) (first least : ℕ)
    → length layer ≡ 0 → least ≤ first → (y : ℕ) → (y < first → Has standing y)
    → (Has shown y → Has standing y)
    → (least ≤ y → Has shown' y ↔ (Has shown y ⊎ ((x : ℕ) × Contains layer x × Has (row_of rows x) y)))
    → Has shown' y → Has standing y
settled_step rows layer shown shown' standing first least none low_least y below before more has =
    elim (cases_lt y first) [
      | inl low ↦ below low
      | inr from ↦ elim ((more (omega (arith, low_least, from))).0 has) [
        | inl was ↦ before was
        | inr s ↦ absurd (let lt = s.1.1 in omega (arith, lt, none))
      ]
    ]

-- before the first layer
pub tested_none : (first least : ℕ) (layers rows : List (List ℕ)) (standing shown : List ℕ)
    → ((y : ℕ) → Has standing y ↔ (y < first)) → ((y : ℕ) → ¬ Has shown y)
    → IsTested first least 0 layers rows standing shown
tested_none first least layers rows standing shown below none_shown = record {
  standing_is = λ y. (
    λ has. inl ((below y).0 has),
    λ s. elim s [
      | inl low ↦ (below y).1 low
      | inr stands ↦ absurd (let none : stands.0 < 0 = stands.1 in omega arith)
    ],
  );
  shown_is =
      λ y _. (λ has. absurd (none_shown y has), λ s. absurd (let low : s.1.0 < 0 = s.1.1 in omega arith));
  gradual = λ j x y low. absurd (omega arith);
}

module _ (first least m : ℕ) (low_least : least ≤ first) (layers rows : List (List ℕ))
    (standing shown standing' : List ℕ) (is : IsTested first least m layers rows standing shown)
    (grown : (y : ℕ) → Has standing' y ↔ (Has standing y ⊎ Contains (get_or layers m []) y)) where
  standing_more : (y : ℕ) → Has standing' y ↔ ((y < first) ⊎ StandsBelow (m + 1) layers y)
  standing_more y = (
    λ has. elim ((grown y).0 has) [
      | inl was ↦ elim ((is.standing_is y).0 was) [
        | inl low ↦ inl low
        | inr stands ↦ inr (stands_before m (m + 1) layers y (omega arith) stands)
      ]
      | inr here ↦ inr (m, (omega arith), here)
    ],
    λ s. (grown y).1
        (elim s [
          | inl low ↦ inl ((is.standing_is y).1 (inl low))
          | inr stands ↦ elim (stands_more m layers y stands) [
            | inl before ↦ inl ((is.standing_is y).1 (inr before))
            | inr here ↦ inr here
          ]
        ]),
  )

  -- what is shown so far stands in one layer more
  pub gradual_more : ((y : ℕ) → Has shown y → Has standing' y) → (j x y : ℕ) → j < m + 1
      → StandsBelow j layers x → Has (row_of rows x) y → first ≤ y → StandsBelow (j + 1) layers y
  gradual_more subset = λ j x y low stands has from.
      elim (cases_eq j m) [
        | inl last ↦
            let by_m : StandsBelow m layers x = rw last at stands in
            let next : StandsBelow (m + 1) layers y =
            elim ((standing_more y).0
            (subset y ((is.shown_is y (omega (arith, low_least, from))).1 (x, by_m, has)))) [
              | inl less ↦ absurd (omega (arith, less, from))
              | inr s ↦ s
            ] in
            rw last next
        | inr before ↦ is.gradual j x y (omega arith) stands has from
      ]

  -- what is shown by one layer more
  pub shown_more : (y : ℕ) → least ≤ y
      → (Has shown y ⊎ ((x : ℕ) × Contains (get_or layers m []) x × Has (row_of rows x) y))
      ↔ ((x : ℕ) × StandsBelow (m + 1) layers x × Has (row_of rows x) y)
  shown_more y from = (
    λ has. elim has [
      | inl was ↦ let s =
          (is.shown_is y from).0 was in (s.0, stands_before m (m + 1) layers s.0 (omega arith) s.1, s.2)
      | inr s ↦ (s.0, (m, (omega arith), s.1), s.2)
    ],
    λ s. elim (stands_more m layers s.0 s.1) [
      | inl before ↦ inl ((is.shown_is y from).1 (s.0, before, s.2))
      | inr here ↦ inr (s.0, here, s.2)
    ],
  )

  -- one layer more
  pub tested_step : (shown' : List ℕ) → ((y : ℕ) → Has shown y → Has standing' y)
      → ((y : ℕ) → least ≤ y → Has shown' y
      ↔ (Has shown y ⊎ ((x : ℕ) × Contains (get_or layers m []) x × Has (row_of rows x) y)))
      → IsTested first least (m + 1) layers rows standing' shown'
  tested_step shown' subset more = record {
    standing_is = standing_more;
    shown_is =
        λ y from. (
          λ has. (shown_more y from).0 ((more y from).0 has),
          λ s. (more y from).1 ((shown_more y from).1 s),
        );
    gradual = gradual_more subset;
  }

  -- layers that meet the rule pass the test
  pub tested_subset : (n source : ℕ) (lists : List (List ℕ)) (depth : ℕ → ℕ) → m < length layers
      → All (λ layer. All (λ x. first ≤ x) layer) layers
      → All (λ layer. All (λ x. x < n) layer) layers → IsTableOf n lists rows → AreDepths first layers depth
      → MeetsRule lists first source (length layers) depth
      → (y : ℕ) → Has shown y → Has standing' y
  tested_subset n source lists depth within ahead ok table depths meets y has =
      (standing_more y).1 (elim (cases_lt y first) [
        | inl less ↦ inl less
        | inr from ↦
            let s = (is.shown_is y (omega (arith, low_least, from))).0 has in
            let low : s.0 < n = stands_within n layers ok m s.0 s.1 in
            let high : first ≤ s.0 = stands_from first layers ahead m s.0 s.1 in
            let shallow : depth s.0 < m = (depths.below m s.0 high (omega arith)).1 s.1 in
            let step : depth y ≤ depth s.0 + 1 =
            meets.gradual s.0 y high from ((table.shown s.0 y low).0 s.2) in
            inr ((depths.below (m + 1) y from (omega arith)).0 (omega arith))
      ])

-- after the last layer
module _ (n first source : ℕ) (layers rows lists : List (List ℕ)) (IsShownLast : Type 0) (depth : ℕ → ℕ)
    (ahead : All (λ layer. All (λ x. first ≤ x) layer) layers)
    (ok : All (λ layer. All (λ x. x < n) layer) layers)
    (gradual : (j x y : ℕ) → j < length layers → StandsBelow j layers x → Has (row_of rows x) y → first ≤ y
    → StandsBelow (j + 1) layers y)
    (shown_is : IsShownLast ↔ ((x : ℕ) × StandsBelow (length layers) layers x × Has (row_of rows x) source))
    (table : IsTableOf n lists rows)
    (depths : AreDepths first layers depth) where
  tested_gradual : (x y : ℕ) → first ≤ x → first ≤ y → IsShown lists x y → depth y ≤ depth x + 1
  tested_gradual x y high from s =
      elim (cases_lt (depth x + 1) (length layers)) [
        | inr deep ↦ omega (arith, depths.most y from)
        | inl below ↦
            let stands : StandsBelow (depth x + 1) layers x =
            (depths.below (depth x + 1) x high (omega arith)).0 (omega arith) in
            let low : x < n = stands_within n layers ok (depth x + 1) x stands in
            let next : StandsBelow (depth x + 1 + 1) layers y =
            gradual (depth x + 1) x y below stands ((table.shown x y low).1 s) from in
            let shallow : depth y < depth x + 1 + 1 =
            (depths.below (depth x + 1 + 1) y from (omega arith)).1 next in
            omega arith
      ]

  tested_deep : (¬ IsShownLast) → (x : ℕ) → first ≤ x → IsShown lists x source → length layers ≤ depth x
  tested_deep none x high s =
      elim (cases_lt (depth x) (length layers)) [
        | inr deep ↦ deep
        | inl below ↦
            let stands : StandsBelow (length layers) layers x =
            (depths.below (length layers) x high (omega arith)).0 below in
            let low : x < n = stands_within n layers ok (length layers) x stands in
            absurd (none (shown_is.1 (x, stands, (table.shown x source low).1 s)))
      ]

  pub tested_all : (IsShownLast → ⊥) ↔ MeetsRule lists first source (length layers) depth
  tested_all = (
    λ none. record { gradual = tested_gradual; deep = tested_deep none },
    λ meets has.
        let s = shown_is.0 has in
        let low : s.0 < n = stands_within n layers ok (length layers) s.0 s.1 in
        let high : first ≤ s.0 = stands_from first layers ahead (length layers) s.0 s.1 in
        let shallow : depth s.0 < length layers =
        (depths.below (length layers) s.0 high (omega arith)).1 s.1 in
        let deep : length layers ≤ depth s.0 = meets.deep s.0 high ((table.shown s.0 source low).0 s.2) in
        omega arith,
  )

-- where there is no layer nothing is shown
pub none_below : (layers : List (List ℕ)) (rows : List (List ℕ)) (y : ℕ) → length layers ≡ 0
    → ((x : ℕ) × StandsBelow (length layers) layers x × Has (row_of rows x) y) → ⊥
none_below layers rows y none s = omega (arith, none, s.1.1)

-- the answer `!b`
pub negated : (b : Bool) (P : Type 0) → (IsTrue b ↔ P) → IsTrue (not b) ↔ (P → ⊥)
negated true P same = (λ h. absurd (true≢false (sym h)), λ none. absurd (none (same.0 refl)))
negated false P same = (λ h p. true≢false (sym (same.1 p)), λ _. refl)
