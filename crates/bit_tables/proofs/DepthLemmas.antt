-- Layers of numbers by their depths: none at first, one number more, and what all of them say of the rule.
use Rattle.std.proofs.Common.{◌≡◌, ◌≢◌, ℕ, zero, suc, ◌+◌, ◌<◌, ◌≤◌, ◌⊎◌, inl, inr, List, [], ◌∷◌, ◌++◌, map}
use Rattle.std.proofs.Common.{replicate, set, get_or, length, Vec, Global, sym, ◌∙◌, arith, ap, subst}
use Rattle.std.proofs.Common.{get_or-set_same, get_or-set_other}
use Rattle.std.specs.Prelude.{◌↔◌, All, Contains, slice_index_or}
use native.Mathlib.Decide.{ℕ_discrete}
use Rattle.std.proofs.lemmas.Bool.{cases_lt}
use Rattle.std.proofs.lemmas.List.{map-set, get_or-map, get_or-replicate, get_or_default, get_or_past}
use Rattle.std.proofs.lemmas.List.{length-map, length-replicate}
use Rattle.std.proofs.lemmas.List.Elements.{All-get_or, Contains-append_left, Contains-append_right}
use Rattle.std.proofs.lemmas.List.Elements.{Contains-append_cases}
use Rattle.bit_tables.specs.Rule.{AreDepths, StandsBelow, layer_at}
use Rattle.bit_tables.proofs.LayerLemmas.{IsAmongFirst}

-- empty layers have no number
pub none-in : (n d x : ℕ) → Contains (get_or (replicate {A = List ℕ} n []) d []) x → ⊥
none-in n d x c = elim (cases_lt d n) [
  | inl lt ↦ nothing x (subst (λ (l : List ℕ). Contains l x) (get_or-replicate n d [] [] lt) c)
  | inr le ↦
      nothing x
      (subst (λ (l : List ℕ). Contains l x) (get_or_past (replicate n []) d []
      (let e : length (replicate {A = List ℕ} n []) ≡ n = length-replicate n [] in omega (arith, e, le))) c)
]
  where
    nothing : (x : ℕ) → Contains {X = ℕ} [] x → ⊥
    nothing x (i, lt, is) = omega (arith, lt)

module _ (layers : List (Vec ℕ Global)) (n : ℕ) (empty : map (λ (layer : Vec ℕ Global). layer.items) layers
    ≡ replicate n []) where
  pub empty-none : (d x : ℕ) → Contains (layer_at layers d) x → ⊥
  empty-none d x h = none-in n d x (subst (λ (ls : List (List ℕ)). Contains (get_or ls d []) x) empty h)

single : (q x : ℕ) → Contains (q ∷ []) x → x ≡ q
single q x (zero, lt, is) = sym is
single q x (suc i, lt, is) = absurd (let low : suc i < 1 = lt in omega arith)

-- one number more in one layer
module _ (rows : List (Vec ℕ Global)) (y : ℕ) (v w : Vec ℕ Global) (q : ℕ) (within : y < length rows)
    (is : v ≡ get_or rows y v) (pushed : w.items ≡ v.items ++ q ∷ []) where
  after : (d : ℕ)
      → layer_at (set rows y w) d
      ≡ get_or (set (map (λ (layer : Vec ℕ Global). layer.items) rows) y w.items) d []
  after d = ap (λ l. get_or l d []) (map-set (λ (layer : Vec ℕ Global). layer.items) rows y w)

  grown : layer_at (set rows y w) y ≡ layer_at rows y ++ q ∷ []
  grown =
      let place : y < length (map (λ (layer : Vec ℕ Global). layer.items) rows) =
      subst (λ n. y < n) (sym (length-map rows (λ (layer : Vec ℕ Global). layer.items))) within in
      let here : layer_at rows y ≡ v.items =
      get_or-map (λ (layer : Vec ℕ Global). layer.items) rows y v [] within
      ∙ ap (λ (layer : Vec ℕ Global). layer.items) (sym is) in
      after y ∙ get_or-set_same (map (λ (layer : Vec ℕ Global). layer.items) rows) y w.items [] place ∙ pushed
      ∙ ap (λ l. l ++ q ∷ []) (sym here)

  kept : (d : ℕ) → d ≢ y → layer_at (set rows y w) d ≡ layer_at rows d
  kept d other =
      after d ∙ get_or-set_other (map (λ (layer : Vec ℕ Global). layer.items) rows) y d w.items [] other

  pub put-has : (d x : ℕ) → Contains (layer_at (set rows y w) d) x
      ↔ (Contains (layer_at rows d) x ⊎ ((d ≡ y) × (x ≡ q)))
  put-has d x = elim (ℕ_discrete d y) [
    | yes e ↦
        let new : layer_at (set rows y w) d ≡ layer_at rows d ++ q ∷ [] =
        subst (λ n. layer_at (set rows y w) n ≡ layer_at rows n ++ q ∷ []) (sym e) grown in (
          λ c. elim (Contains-append_cases (layer_at rows d) (q ∷ []) x (subst (λ l. Contains l x) new c)) [
            | inl old ↦ inl old
            | inr one ↦ inr (e, single q x one)
          ],
          λ s. subst (λ l. Contains l x) (sym new) (elim s [
            | inl old ↦ Contains-append_left (layer_at rows d) (q ∷ []) x old
            | inr p ↦ Contains-append_right (layer_at rows d) (q ∷ []) x (0, omega arith, sym p.1)
          ]),
        )
    | no n ↦ (
      λ c. inl (subst (λ l. Contains l x) (kept d n) c),
      λ s. elim s [
        | inl old ↦ subst (λ l. Contains l x) (sym (kept d n)) old
        | inr p ↦ absurd (n p.0)
      ],
    )
  ]

-- one number more in the layer of its depth
pub more-numbers : (depths noted : List ℕ) (old new : List (Vec ℕ Global)) (first i d x : ℕ)
    → i < length noted
    → Contains (layer_at old d) x ↔ ((first ≤ x) × IsAmongFirst i noted x × (get_or depths x 0 ≡ d))
    → Contains (layer_at new d) x ↔ (Contains (layer_at old d) x
    ⊎ ((first ≤ get_or noted i 0) × (d ≡ get_or depths (get_or noted i 0) 0) × (x ≡ get_or noted i 0)))
    → Contains (layer_at new d) x ↔ ((first ≤ x) × IsAmongFirst (i + 1) noted x × (get_or depths x 0 ≡ d))
more-numbers depths noted old new first i d x inside before now =
    let n : ℕ = get_or noted i 0 in (
      λ c. elim (now.0 c) [
        | inl was ↦ let p = before.0 was in (p.0, (p.1.0, (let lt = p.1.1 in omega arith), p.1.2), p.2)
        | inr p ↦
            let same : x ≡ n = p.2 in (
              (let le = p.0 in omega arith),
              (i, omega arith, get_or_default noted i x 0 inside ∙ sym same),
              ap (λ m. get_or depths m 0) same ∙ sym p.1,
            )
      ],
      λ p. elim (ℕ_discrete p.1.0 i) [
        | yes last ↦
            let at : get_or noted i x ≡ x = ap (λ k. get_or noted k x) (sym last) ∙ p.1.2 in
            let same : x ≡ n = sym at ∙ get_or_default noted i x 0 inside in
            now.1 (inr ((let le = p.0 in omega arith), sym p.2 ∙ ap (λ m. get_or depths m 0) same, same))
        | no apart ↦ now.1 (inl (before.1 (p.0, (p.1.0, (let lt = p.1.1 in omega arith), p.1.2), p.2)))
      ],
    )

module _ (depths : List ℕ) (count first : ℕ) (layers : List (Vec ℕ Global)) (size : length layers ≡ count)
    (most : All (λ d. d ≤ count) depths)
    (has : (d x : ℕ) → d < count → Contains (layer_at layers d) x
    ↔ ((first ≤ x) × (x < length depths) × (get_or depths x 0 ≡ d))) where
  abbrev depth : ℕ → ℕ
  depth x = slice_index_or depths x count

  near : (x : ℕ) → x < length depths → depth x ≡ get_or depths x 0
  near x lt = get_or_default depths x count 0 lt

  far : (x : ℕ) → length depths ≤ x → depth x ≡ count
  far x le = get_or_past depths x count le

  lists-count : length (map (λ (layer : Vec ℕ Global). layer.items) layers) ≡ count
  lists-count = length-map layers (λ (layer : Vec ℕ Global). layer.items) ∙ size

  below : (m x : ℕ) → first ≤ x → m ≤ count
      → (depth x < m) ↔ StandsBelow m (map (λ (layer : Vec ℕ Global). layer.items) layers) x
  below m x from le = (
    λ lt. elim (cases_lt x (length depths)) [
      | inl known ↦
          let same : depth x ≡ get_or depths x 0 = near x known in
          (depth x, lt, (has (depth x) x (omega (arith, lt, le))).1 (from, known, sym same))
      | inr past ↦ absurd (let e = far x past in omega arith)
    ],
    λ s.
        let p = (has s.0 x (let lt = s.1 in omega arith)).0 s.2 in
        let same : depth x ≡ get_or depths x 0 = near x p.1 in
        let e : get_or depths x 0 ≡ s.0 = p.2 in
        let lt = s.1 in omega arith,
  )

  at-most : (x : ℕ) → depth x ≤ count
  at-most x = elim (cases_lt x (length depths)) [
    | inl known ↦ let same = near x known in let le : get_or depths x 0 ≤ count =
        All-get_or (λ d. d ≤ count) depths x 0 known most in omega arith
    | inr past ↦ let e = far x past in omega arith
  ]

  pub are-depths : AreDepths first (map (λ (layer : Vec ℕ Global). layer.items) layers)
      (λ x. slice_index_or depths x count)
  are-depths = record {
    below = λ m x from le. below m x from (let e = lists-count in omega arith);
    most = λ x from. let h = at-most x in let e = lists-count in omega arith;
  }

  in-layers : All (λ (layer : Vec ℕ Global). All (λ x. (first ≤ x) × (x < length depths)) layer.items) layers
  in-layers i v lt j e inside =
      let layer : Vec ℕ Global = get_or layers i v in
      let x : ℕ = get_or layer.items j e in
      let same : layer_at layers i ≡ layer.items =
      get_or-map (λ (layer : Vec ℕ Global). layer.items) layers i v [] lt in
      let there : Contains layer.items x = (j, inside, get_or_default layer.items j x e inside) in
      let p = (has i x (let s = size in omega arith)).0 (subst (λ l. Contains l x) (sym same) there) in
      (p.0, p.1)

  pub within-layers : All (λ (layer : Vec ℕ Global). All (λ x. x < length depths) layer.items) layers
  within-layers i v lt j e inside = (in-layers i v lt j e inside).1

  pub from-layers : All (λ (layer : Vec ℕ Global). All (λ x. first ≤ x) layer.items) layers
  from-layers i v lt j e inside = (in-layers i v lt j e inside).0
