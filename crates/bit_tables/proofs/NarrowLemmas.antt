-- Small numbers in place of depths: one depth after the other, each depth of a list, and what the layer rule
-- says of them.
use Rattle.std.proofs.Common.{◌≡◌, ℕ, ◌+◌, ◌-◌, ◌<◌, ◌≤◌, inl, inr, List, [], ◌∷◌, ◌++◌, length, get_or}
use Rattle.std.proofs.Common.{arith, refl, sym, ◌∙◌, ap, subst}
use Rattle.std.specs.Prelude.{◌↔◌, All, min, slice_index_or}
use Rattle.std.proofs.Math.Nat.{lt_of_not-le, min-eq_left, min-eq_right, not-le_of_lt}
use Rattle.std.proofs.lemmas.Bool.{cases_eq, cases_lt}
use Rattle.std.proofs.lemmas.List.{get_or_default, get_or_past, get_or_append_left, get_or-append_right}
use Rattle.std.proofs.lemmas.List.{length-append}
use Rattle.bit_tables.specs.Rule.{HaveDepths, MeetsRule}
use Rattle.bit_tables.specs.Narrow.{AreAlike, AreNarrowed, AreSmall, StandsFor}

-- from one depth to a greater one the small numbers grow no more than the depths, and as much where they
-- grow by at most one
pub record IsAhead (a b small_a small_b : ℕ) : Type 0 where
  pub rise : small_a ≤ small_b
  pub less : small_b + a ≤ b + small_a
  pub near : small_b ≤ small_a + 1 → small_b + a ≡ b + small_a

pub ahead-same : (a small : ℕ) → IsAhead a a small small
ahead-same a small = record { rise = omega arith; less = omega arith; near = λ h. omega arith }

-- 0, 1 or 2 more, as the depth is the same, one more, or more than that
pub ahead-by : (last depth small step : ℕ) → last ≤ depth → step ≡ min (depth - last) 2
    → IsAhead last depth small (small + step)
ahead-by last depth small step le is = elim (cases_lt (depth - last) 2) [
  | inl low ↦
      let e : min (depth - last) 2 ≡ depth - last = min-eq_left (omega (arith, low)) in
      record { rise = omega arith; less = omega (arith, is, e, le); near = λ h. omega (arith, is, e, le) }
  | inr high ↦
      let e : min (depth - last) 2 ≡ 2 = min-eq_right high in
      record {
        rise = omega arith;
        less = omega (arith, is, e, le, high);
        near = λ h. absurd (omega (arith, is, e, h));
      }
]

pub ahead-then : (a b c small_a small_b small_c : ℕ) → IsAhead a b small_a small_b
    → IsAhead b c small_b small_c → IsAhead a c small_a small_c
ahead-then a b c small_a small_b small_c first next = record {
  rise = omega (arith, first.rise, next.rise);
  less = omega (arith, first.less, next.less);
  near = λ h.
      let one : small_b + a ≡ b + small_a = first.near (omega (arith, next.rise, h)) in
      let two : small_c + b ≡ c + small_b = next.near (omega (arith, first.rise, h)) in
      omega arith;
}

-- to a greater depth
ahead-alike : (a b small_a small_b : ℕ) → IsAhead a b small_a small_b → AreAlike a b small_a small_b
ahead-alike a b small_a small_b is = record {
  order = (λ h. is.rise, λ h. omega (arith, is.rise, is.less));
  step = (λ h. omega (arith, is.rise), λ h. omega (arith, is.rise, is.less));
}

-- to a lesser depth
behind-alike : (a b small_a small_b : ℕ) → IsAhead a b small_a small_b → AreAlike b a small_b small_a
behind-alike a b small_a small_b is = record {
  order = (
    λ h. omega (arith, is.less),
    λ h. let e : small_b + a ≡ b + small_a = is.near (omega arith) in
        omega arith,
  );
  step = (λ h. omega (arith, is.less), λ h. let e : small_b + a ≡ b + small_a = is.near h in omega arith);
}

alike-at : (a b c d a' b' c' d' : ℕ) → a ≡ a' → b ≡ b' → c ≡ c' → d ≡ d' → AreAlike a b c d
    → AreAlike a' b' c' d'
alike-at a b c d a' b' c' d' at_a at_b at_c at_d is = record {
  order = (
    λ h. let small : c ≤ d = is.order.0 (omega arith) in omega arith,
    λ h. let wide : a ≤ b = is.order.1 (omega arith) in omega arith,
  );
  step = (
    λ h. let small : c ≤ d + 1 = is.step.0 (omega arith) in omega arith,
    λ h. let wide : a ≤ b + 1 = is.step.1 (omega arith) in omega arith,
  );
}

-- what is known of the first i depths, of which the last has the small number
pub record IsNarrowedTo (wide : List ℕ) (i : ℕ) (narrow : List ℕ) (last small : ℕ) : Type 0 where
  pub len : length narrow ≡ i
  pub ahead : (k : ℕ) → k < i → IsAhead (get_or wide k 0) last (get_or narrow k 0) small
  pub kept : (j k : ℕ) → j ≤ k → k < i
      → IsAhead (get_or wide j 0) (get_or wide k 0) (get_or narrow j 0) (get_or narrow k 0)

pub narrowed-none : (wide narrow : List ℕ) (last small : ℕ) → length narrow ≡ 0
    → IsNarrowedTo wide 0 narrow last small
narrowed-none wide narrow last small none = record {
  len = none;
  ahead = λ k lt. absurd (omega (arith, lt));
  kept = λ j k le lt. absurd (omega (arith, lt));
}

-- one depth more
module _ (wide : List ℕ) (i : ℕ) (narrow : List ℕ) (last small next : ℕ)
    (is : IsNarrowedTo wide i narrow last small) (grown : IsAhead last (get_or wide i 0) small next) where
  old-there : (k : ℕ) → k < i → get_or (narrow ++ next ∷ []) k 0 ≡ get_or narrow k 0
  old-there k lt = get_or_append_left narrow (next ∷ []) 0 k (let e = is.len in omega arith)

  new-there : get_or (narrow ++ next ∷ []) i 0 ≡ next
  new-there = get_or-append_right narrow (next ∷ []) i i 0 is.len (omega arith)
      ∙ ap (λ n. get_or (next ∷ []) n 0) (let e : i - i ≡ 0 = omega arith in e)

  ahead-of : (a b c d c' d' : ℕ) → c' ≡ c → d' ≡ d → IsAhead a b c d → IsAhead a b c' d'
  ahead-of a b c d c' d' at_c at_d h = record {
    rise = omega (arith, h.rise);
    less = omega (arith, h.less);
    near = λ le. let e : d + a ≡ b + c = h.near (omega arith) in omega arith;
  }

  ahead-more : (k : ℕ) → k < i + 1
      → IsAhead (get_or wide k 0) (get_or wide i 0) (get_or (narrow ++ next ∷ []) k 0) next
  ahead-more k lt = elim (cases_eq k i) [
    | inl e ↦
        subst (λ n. IsAhead (get_or wide n 0) (get_or wide i 0) (get_or (narrow ++ next ∷ []) n 0) next)
        (sym e)
        (ahead-of (get_or wide i 0) (get_or wide i 0) next next _ _ new-there refl
        (ahead-same (get_or wide i 0) next))
    | inr other ↦
        let low : k < i = omega (arith, lt, other) in
        ahead-of (get_or wide k 0) (get_or wide i 0) (get_or narrow k 0) next _ _ (old-there k low) refl
        (ahead-then (get_or wide k 0) last (get_or wide i 0) (get_or narrow k 0) small next
        (is.ahead k low) grown)
  ]

  pub narrowed-more : IsNarrowedTo wide (i + 1) (narrow ++ next ∷ []) (get_or wide i 0) next
  narrowed-more = record {
    len = length-append narrow (next ∷ []) ∙ ap (λ n. n + 1) is.len;
    ahead = ahead-more;
    kept = λ j k le lt. elim (cases_eq k i) [
      | inl e ↦
          subst (λ n. IsAhead (get_or wide j 0) (get_or wide n 0) (get_or (narrow ++ next ∷ []) j 0)
          (get_or (narrow ++ next ∷ []) n 0)) (sym e)
          (ahead-of (get_or wide j 0) (get_or wide i 0) (get_or (narrow ++ next ∷ []) j 0) next _ _ refl
          new-there (ahead-more j (omega (arith, le, lt))))
      | inr other ↦
          let low : k < i = omega (arith, lt, other) in
          ahead-of (get_or wide j 0) (get_or wide k 0) (get_or narrow j 0) (get_or narrow k 0) _ _
          (old-there j (omega (arith, le, low))) (old-there k low) (is.kept j k le low)
    ];
  }

-- after the last depth
pub narrowed-all : (wide narrow : List ℕ) (i last small : ℕ) → i ≡ length wide
    → IsNarrowedTo wide i narrow last small → AreNarrowed wide narrow
narrowed-all wide narrow i last small all is = record {
  len = is.len ∙ all;
  alike = λ j k low_j low_k. elim (cases_lt k j) [
    | inl lt ↦
        behind-alike (get_or wide k 0) (get_or wide j 0) (get_or narrow k 0) (get_or narrow j 0)
        (is.kept k j (omega (arith, lt)) (omega (arith, all, low_j)))
    | inr le ↦
        ahead-alike (get_or wide j 0) (get_or wide k 0) (get_or narrow j 0) (get_or narrow k 0)
        (is.kept j k le (omega (arith, all, low_k)))
  ];
}

-- one number more for its depth
pub stands-more : (wide narrow depths small : List ℕ) (x next : ℕ) → length small ≡ x
    → ((k : ℕ) → k < x → StandsFor wide narrow (get_or depths k 0) (get_or small k 0))
    → StandsFor wide narrow (get_or depths x 0) next
    → (k : ℕ) → k < x + 1 → StandsFor wide narrow (get_or depths k 0) (get_or (small ++ next ∷ []) k 0)
stands-more wide narrow depths small x next len before here k lt = elim (cases_eq k x) [
  | inl e ↦
      let there : get_or (small ++ next ∷ []) k 0 ≡ next =
      get_or-append_right small (next ∷ []) x k 0 len (omega (arith, e))
      ∙ ap (λ n. get_or (next ∷ []) n 0) (let zero_more : k - x ≡ 0 = omega (arith, e) in zero_more) in
      (here.0, here.1, here.2 ∙ ap (λ n. get_or depths n 0) (sym e), here.3 ∙ sym there)
  | inr other ↦
      let low : k < x = omega (arith, lt, other) in
      let was = before k low in
      (was.0, was.1, was.2, was.3 ∙ sym (get_or_append_left small (next ∷ []) 0 k (omega (arith, len, low))))
]

-- all depths have their numbers
module _ (wide narrow depths small : List ℕ) (count most : ℕ) (is : AreNarrowed wide narrow)
    (len : length small ≡ length depths)
    (each : (k : ℕ) → k < length depths → StandsFor wide narrow (get_or depths k 0) (get_or small k 0))
    (last : StandsFor wide narrow count most) where
  stands : (x : ℕ) → StandsFor wide narrow (get_or depths x count) (get_or small x most)
  stands x = elim (cases_lt x (length depths)) [
    | inl known ↦
        let s = each x known in (
          s.0,
          s.1,
          s.2 ∙ get_or_default depths x 0 count known,
          s.3
              ∙ get_or_default small x 0 most (omega (arith, len, known)),
        )
    | inr past ↦ (
      last.0,
      last.1,
      last.2 ∙ sym (get_or_past depths x count past),
      last.3
          ∙ sym (get_or_past small x most (omega (arith, len, past))),
    )
  ]

  pub are-small : AreSmall depths count small most
  are-small = record {
    len = len;
    alike = λ x y.
        let a = stands x in
        let b = stands y in
        alike-at (get_or wide a.0 0) (get_or wide b.0 0) (get_or narrow a.0 0)
        (get_or narrow b.0 0) _ _ _ _ a.2 b.2 a.3 b.3 (is.alike a.0 b.0 a.1 b.1);
  }

-- what small depths say of the rule
module _ (depths small : List ℕ) (count most : ℕ) (is : AreSmall depths count small most) where
  -- the count stands to each depth as the small one does
  count-alike : (x : ℕ) → AreAlike count (get_or depths x count) most (get_or small x most)
  count-alike x =
      alike-at _ (get_or depths x count) _ (get_or small x most) count (get_or depths x count) most
      (get_or small x most) (get_or_past depths (length depths) count (omega arith)) refl
      (get_or_past small (length depths) most (omega (arith, is.len))) refl (is.alike (length depths) x)

  alike-count : (x : ℕ) → AreAlike (get_or depths x count) count (get_or small x most) most
  alike-count x =
      alike-at (get_or depths x count) _ (get_or small x most) _ (get_or depths x count) count
      (get_or small x most) most refl (get_or_past depths (length depths) count (omega arith)) refl
      (get_or_past small (length depths) most (omega (arith, is.len))) (is.alike x (length depths))

  pub small-most : All (λ d. d ≤ count) depths → All (λ d. d ≤ most) small
  small-most all k d lt =
      let low : k < length depths = omega (arith, lt, is.len) in
      let at : get_or depths k count ≤ count = all k count low in
      let le : get_or small k most ≤ most = (alike-count k).order.0 at in
      let same : get_or small k d ≡ get_or small k most = get_or_default small k d most lt in
      omega arith

  -- a depth is below the count where the small one is below the small count
  below-alike : (x : ℕ) → x < length depths → (get_or depths x 0 < count) ↔ (get_or small x 0 < most)
  below-alike x low =
      let known : get_or depths x 0 ≡ get_or depths x count = get_or_default depths x 0 count low in
      let same : get_or small x 0 ≡ get_or small x most =
      get_or_default small x 0 most (omega (arith, low, is.len)) in
      let order : (count ≤ get_or depths x 0) ↔ (most ≤ get_or small x 0) =
      rw (known, same) (count-alike x).order in (
        λ wide. lt_of_not-le (λ le. not-le_of_lt wide (order.1 le)),
        λ narrow. lt_of_not-le (λ le. not-le_of_lt narrow (order.0 le)),
      )

  -- the same numbers have a small depth below the small count
  pub small-noted : (noted : List ℕ) → HaveDepths depths count noted → HaveDepths small most noted
  small-noted noted has x = (
    λ c. let p = (has x).0 c in (omega (arith, p.0, is.len), (below-alike x p.0).0 p.1),
    λ p. let low : x < length depths = omega (arith, p.0, is.len) in
        (has x).1 (low, (below-alike x low).1 p.1),
  )

  pub meets-alike : (lists : List (List ℕ)) (first source : ℕ)
      → MeetsRule lists first source most (λ x. slice_index_or small x most)
      ↔ MeetsRule lists first source count (λ x. slice_index_or depths x count)
  meets-alike lists first source = (
    λ meets. record {
      gradual = λ x y from_x from_y s. (is.alike y x).step.1 (meets.gradual x y from_x from_y s);
      deep = λ x from s. (count-alike x).order.1 (meets.deep x from s);
    },
    λ meets. record {
      gradual = λ x y from_x from_y s. (is.alike y x).step.0 (meets.gradual x y from_x from_y s);
      deep = λ x from s. (count-alike x).order.0 (meets.deep x from s);
    },
  )
