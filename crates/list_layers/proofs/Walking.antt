-- Layers so far, one layer after another.
use Rattle.std.proofs.Common.{◌≡◌, ℕ, zero, suc, ◌+◌, ◌-◌, ◌<◌, ◌≤◌, ◌⊎◌, inl, inr, true, false, List, []}
use Rattle.std.proofs.Common.{◌∷◌, ◌++◌, length, map, get_or, set, replicate, slice_index, refl, sym, ap}
use Rattle.std.proofs.Common.{subst, ◌∙◌, arith, get_or-set_same, get_or-set_other}
use Rattle.std.specs.Prelude.{Contains}
use Rattle.std.specs.List.Sorted.{IsStrictlyIncreasing}
use Rattle.std.proofs.lemmas.Bool.{cases_eq, cases_lt}
use Rattle.std.proofs.lemmas.List.{get_or_append_left, get_or-map, get_or_past, get_or-replicate}
use Rattle.std.proofs.lemmas.List.{length-append, length-map, length-replicate, length-set}
use Rattle.std.proofs.Math.Seq.{get_or-append_seam}
use Rattle.order_graph.specs.Lists.{row, Stands}
use Rattle.list_search.specs.Graph.{Graph}
use Rattle.bit_tables.specs.Rule.{StandsBelow}
use Rattle.list_layers.specs.declared.state.State.{State}
use Rattle.list_layers.specs.Progress.{Follows, IsClean, IsGood, IsNextLayer, IsSeen, StandsIn}
use Rattle.list_layers.specs.Walked.{IsWalked}
use Rattle.list_layers.specs.Ways.{IsLayerAt, IsStep, Way}

abbrev at : List (List ℕ) → ℕ → List ℕ
at layers j = get_or layers j []

pub way_counts : (lists : List (List ℕ)) (s j x : ℕ) → Way lists s j x → s ≤ x
way_counts lists s zero x way = omega (arith, way)
way_counts lists s (suc j) x way = way.2.to

-- one layer more
module _ (g : Graph) (s m : ℕ) (layers : List (List ℕ)) (next : List ℕ) (a b : State) (some : 1 ≤ m)
    (is : IsWalked g s m layers a) (good : IsGood g s b)
    (new : IsNextLayer g.rows s (get_or layers (m - 1) []) a.seen.items b.seen.items next)
    (marks : (l : ℕ) → (slice_index b.marks.items l ≡ slice_index a.marks.items l)
    ⊎ StandsIn g.rows (get_or layers (m - 1) []) l) where
  abbrev all : List (List ℕ)
  all = layers ++ next ∷ []

  old : (j : ℕ) → j < m → at all j ≡ at layers j
  old j lt = get_or_append_left layers (next ∷ []) [] j (omega (arith, lt, is.count))

  last : at all m ≡ next
  last = ap (at all) (sym is.count) ∙ get_or-append_seam layers next [] []

  stays : (k x : ℕ) → k ≤ m → StandsBelow k layers x → StandsBelow k all x
  stays k x le stands = (
    stands.0,
    stands.1,
    subst (λ l. Contains l x) (sym (old stands.0 (let lt = stands.1 in omega (arith, lt, le)))) stands.2,
  )

  later : (k j x : ℕ) → k ≤ j → StandsBelow k all x → StandsBelow j all x
  later k j x le stands = (stands.0, (let lt = stands.1 in omega (arith, lt, le)), stands.2)

  join : (x : ℕ) → StandsBelow m layers x ⊎ Contains next x → StandsBelow (m + 1) all x
  join x = λ stands. elim stands [
    | inl before ↦ later m (m + 1) x (omega arith) (stays m x (omega arith) before)
    | inr here ↦ (m, omega arith, subst (λ l. Contains l x) (sym last) here)
  ]

  split : (x : ℕ) → StandsBelow (m + 1) all x → StandsBelow m layers x ⊎ Contains next x
  split x stands = elim (cases_eq stands.0 m) [
    | inl e ↦ inr (subst (λ l. Contains l x) (ap (at all) e ∙ last) stands.2)
    | inr other ↦
        let lt : stands.0 < m = (let h = stands.1 in omega (arith, h, other)) in
        inl (stands.0, lt, subst (λ l. Contains l x) (old stands.0 lt) stands.2)
  ]

  -- what the new layer has is not in one before
  unreached : (x : ℕ) → Contains next x → ¬ StandsBelow m layers x
  unreached x c stands = (new.fresh x c).unseen ((is.seen_is x).1 stands)

  -- it stands after a number of the last layer
  new-way : (x : ℕ) → Contains next x → Way g.rows s m x
  new-way x c =
      let from : Follows g.rows (at layers (m - 1)) x = (new.fresh x c).meets in
      let before = is.sound (m - 1) from.0 (omega (arith, some)) from.1 in
      let step : IsStep g.rows s from.0 x = record {
        from = way_counts g.rows s (m - 1) from.0 before.1;
        to = (new.fresh x c).counts;
        shown = from.2;
      } in
      let way : Way g.rows s (suc (m - 1)) x = (from.0, before.1, step) in
      let count : suc (m - 1) ≡ m = omega (arith, some) in
      subst (λ n. Way g.rows s n x) count way

  new-within : (x : ℕ) → Contains next x → x < g.elements
  new-within x c =
      let now : IsSeen b.seen.items x = (new.now x).1 (inr c) in
      elim (cases_lt x (length b.seen.items)) [
        | inl low ↦ omega (arith, low, good.fits.seen, b.seen.ok)
        | inr past ↦ absurd (let e : false ≡ true = sym (get_or_past b.seen.items x false past) ∙ now in cc)
      ]

  -- where a way of so many steps leads
  new-found : (j x : ℕ) → suc j ≡ m → Way g.rows s (suc j) x → StandsBelow (m + 1) all x
  new-found j x count way =
      let c : ℕ = way.0 in
      let there : StandsBelow (j + 1) layers c = is.found j c (omega (arith, count)) way.1 in
      elim (cases_eq there.0 j) [
        | inl e ↦
            let place : there.0 ≡ m - 1 = omega (arith, e, count) in
            let now : IsSeen b.seen.items x =
            new.all c x (subst (λ i. Contains (at layers i) c) place there.2) way.2.shown way.2.to in
            elim ((new.now x).0 now) [
              | inl was ↦ join x (inl ((is.seen_is x).0 was))
              | inr here ↦ join x (inr here)
            ]
        | inr other ↦
            let i : ℕ = there.0 in
            let less : i < j = (let lt = there.1 in omega (arith, lt, other)) in
            let shorter = is.sound i c (omega (arith, less, count)) there.2 in
            let near : StandsBelow (suc i + 1) layers x =
            is.found (suc i) x (omega (arith, less, count)) (c, shorter.1, way.2) in
            later (suc i + 1) (m + 1) x (omega (arith, less, count))
            (stays (suc i + 1) x (omega (arith, less, count)) near)
      ]

  new-found_at : (j x : ℕ) → j ≡ m → Way g.rows s j x → StandsBelow (m + 1) all x
  new-found_at zero x e way = absurd (omega (arith, e, some))
  new-found_at (suc j) x e way = new-found j x e way

  pub walked_more : IsWalked g s (m + 1) all b
  walked_more = record {
    count = length-append layers (next ∷ []) ∙ ap (λ k. k + 1) is.count;
    good = good;
    seen_is = λ x. (
      λ now. elim ((new.now x).0 now) [
        | inl was ↦ join x (inl ((is.seen_is x).0 was))
        | inr here ↦ join x (inr here)
      ],
      λ stands. elim (split x stands) [
        | inl before ↦ (new.now x).1 (inl ((is.seen_is x).1 before))
        | inr here ↦ (new.now x).1 (inr here)
      ],
    );
    sound = λ j x lt c. elim (cases_eq j m) [
      | inl e ↦
          let here : Contains next x = subst (λ l. Contains l x) (ap (at all) e ∙ last) c in
          (new-within x here, subst (λ i. Way g.rows s i x) (sym e) (new-way x here))
      | inr other ↦
          let low : j < m = omega (arith, lt, other) in
          is.sound j x low (subst (λ l. Contains l x) (old j low) c)
    ];
    found = λ j x lt way. elim (cases_eq j m) [
      | inl e ↦ subst (λ i. StandsBelow (i + 1) all x) (sym e) (new-found_at j x e way)
      | inr other ↦
          let low : j < m = omega (arith, lt, other) in
          stays (j + 1) x (omega (arith, low)) (is.found j x low way)
    ];
    apart = λ i j x less lt c d.
        let low : i < m = omega (arith, less, lt) in
        let one : Contains (at layers i) x = subst (λ l. Contains l x) (old i low) c in
        elim (cases_eq j m) [
          | inl e ↦ unreached x (subst (λ l. Contains l x) (ap (at all) e ∙ last) d) (i, low, one)
          | inr other ↦
              let high : j < m = omega (arith, lt, other) in
              is.apart i j x less high one (subst (λ l. Contains l x) (old j high) d)
        ];
    rising = λ j lt. elim (cases_eq j m) [
      | inl e ↦ subst (λ l. IsStrictlyIncreasing l) (sym (ap (at all) e ∙ last)) new.rising
      | inr other ↦
          let low : j < m = omega (arith, lt, other) in
          subst (λ l. IsStrictlyIncreasing l) (sym (old j low)) (is.rising j low)
    ];
    touched = λ l. elim (marks l) [
      | inl same ↦ elim (is.touched l) [
        | inl end ↦ inl (same ∙ end)
        | inr by ↦ inr (
          by.0,
          (
            by.1.0,
            (let lt = by.1.1 in omega (arith, lt)),
            subst (λ k. Contains k by.0)
                (sym (old by.1.0 (let lt = by.1.1 in omega (arith, lt)))) by.1.2,
          ),
          by.2,
        )
      ]
      | inr now ↦ inr (
        now.0,
        (
          m - 1,
          omega (arith, some),
          subst (λ k. Contains k now.0) (sym (old (m - 1) (omega (arith, some)))) now.1,
        ),
        now.2,
      )
    ];
  }

-- where each mark is at its list's end and nothing is seen, nothing is behind a mark
past_ends : (lists : List (List ℕ)) (l j x : ℕ) → length (row lists l) ≤ j → ¬ Stands lists l j x
past_ends lists l j x past stands = (let within = stands.within in omega (arith, within, past))

clean_marks : (g : Graph) (st : State) → IsClean g st → (l : ℕ)
    → slice_index st.marks.items l ≡ length (row g.rows l)
clean_marks g st clean l = elim (cases_lt l (length g.rows)) [
  | inl within ↦
      ap (λ ms. get_or ms l 0) clean.marks ∙ get_or-map (λ (r : List ℕ). length r) g.rows l [] 0 within
  | inr past ↦
      let size : length (map (λ (r : List ℕ). length r) g.rows) ≡ length g.rows =
      length-map g.rows (λ (r : List ℕ). length r) in
      ap (λ ms. get_or ms l 0) clean.marks
      ∙ get_or_past (map (λ (r : List ℕ). length r) g.rows) l 0 (omega (arith, size, past))
      ∙ sym (ap length (get_or_past g.rows l [] past))
]

unseen_at : (n x : ℕ) → get_or (replicate n false) x false ≡ false
unseen_at n x = elim (cases_lt x n) [
  | inl within ↦ get_or-replicate n x false false within
  | inr past ↦
      let size : length (replicate n false) ≡ n = length-replicate n false in
      get_or_past (replicate n false) x false (omega (arith, size, past))
]

-- the layer of the source alone
module _ (g : Graph) (s : ℕ) (layers : List (List ℕ)) (a b : State) (clean : IsClean g a)
    (known : s < g.elements) (one : layers ≡ (s ∷ []) ∷ []) (marks : b.marks.items ≡ a.marks.items)
    (seen : b.seen.items ≡ set a.seen.items s true) where
  sized : length a.seen.items ≡ g.elements
  sized = ap length clean.seen ∙ length-replicate g.elements false

  seen-source : IsSeen b.seen.items s
  seen-source =
      ap (λ l. get_or l s false) seen
      ∙ get_or-set_same a.seen.items s true false (omega (arith, known, sized))

  seen-alone : (x : ℕ) → IsSeen b.seen.items x → x ≡ s
  seen-alone x now = elim (cases_eq x s) [
    | inl e ↦ e
    | inr other ↦
        let was : get_or a.seen.items x false ≡ true =
        sym (get_or-set_other a.seen.items s x true false other) ∙ ap (λ l. get_or l x false) (sym seen)
        ∙ now in
        let not : get_or a.seen.items x false ≡ false =
        ap (λ l. get_or l x false) clean.seen ∙ unseen_at g.elements x in
        absurd (let e : true ≡ false = sym was ∙ not in cc)
  ]

  first-layer : at layers 0 ≡ s ∷ []
  first-layer = ap (λ ls. at ls 0) one

  in-first : (x : ℕ) → Contains (at layers 0) x → x ≡ s
  in-first x c =
      let d : Contains (s ∷ []) x = subst (λ l. Contains l x) first-layer c in
      let place : d.0 ≡ 0 = (let lt = d.1 in omega (arith, lt)) in
      sym (subst (λ i. get_or (s ∷ []) i x ≡ x) place d.2)

  source-in : Contains (at layers 0) s
  source-in = subst (λ l. Contains l s) (sym first-layer) (0, omega arith, refl)

  end-marks : (l : ℕ) → slice_index b.marks.items l ≡ length (row g.rows l)
  end-marks l = ap (λ ms. get_or ms l 0) marks ∙ clean_marks g a clean l

  pub walked_one : IsWalked g s 1 layers b
  walked_one = record {
    count = ap length one;
    good = record {
      fits = record {
        marks = (let e : length b.marks.items ≡ length g.rows =
            ap length marks ∙ ap length clean.marks ∙ length-map g.rows (λ (r : List ℕ). length r) in
            omega (arith, b.marks.ok, e));
        seen = (let e : length b.seen.items ≡ g.elements =
            ap length seen ∙ length-set a.seen.items s true ∙ sized in
            omega (arith, b.seen.ok, e));
      };
      marks_in = λ l. (let e = end-marks l in omega (arith, e));
      covered = λ l j x past stands counts.
          absurd (past_ends g.rows l j x (let e = end-marks l in omega (arith, e, past)) stands);
    };
    seen_is = λ x. (
      λ now. (0, omega arith, subst (λ y. Contains (at layers 0) y) (sym (seen-alone x now)) source-in),
      λ stands.
          (let place : stands.0 ≡ 0 = (let lt = stands.1 in omega (arith, lt)) in
          subst (λ y. IsSeen b.seen.items y)
          (sym (in-first x (subst (λ i. Contains (at layers i) x) place stands.2))) seen-source),
    );
    sound = λ j x lt c.
        let place : j ≡ 0 = omega (arith, lt) in
        let e : x ≡ s = in-first x (subst (λ i. Contains (at layers i) x) place c) in
        let way : Way g.rows s 0 x = sym e in
        (omega (arith, e, known), subst (λ i. Way g.rows s i x) (sym place) way);
    found = λ j x lt way.
        let place : j ≡ 0 = omega (arith, lt) in
        let none : Way g.rows s 0 x = subst (λ i. Way g.rows s i x) place way in
        (0, omega arith, subst (λ y. Contains (at layers 0) y) none source-in);
    apart = λ i j x less lt c d. omega (arith, less, lt);
    rising = λ j lt.
        let place : j ≡ 0 = omega (arith, lt) in
        subst (λ l. IsStrictlyIncreasing l) (sym (ap (at layers) place ∙ first-layer)) (rises_alone s);
    touched = λ l. inl (end-marks l);
  }
    where
      rises_alone : (x : ℕ) → IsStrictlyIncreasing (x ∷ [])
      rises_alone x k lt = absurd (omega (arith, lt))

-- each layer holds what it is to hold
pub walked_layer : (g : Graph) (s m : ℕ) (layers : List (List ℕ)) (st : State) → IsWalked g s m layers st
    → (d : ℕ) → d < m → IsLayerAt g.elements g.rows s d (get_or layers d [])
walked_layer g s m layers st is d lt = record {
  has = λ x. (
    λ c. (
      (is.sound d x lt c).0,
      record {
        way = (is.sound d x lt c).1;
        shortest = λ fewer less way.
            let stands : StandsBelow (fewer + 1) layers x = is.found fewer x (omega (arith, less, lt)) way in
            is.apart stands.0 d x (let h = stands.1 in omega (arith, h, less)) lt stands.2 c;
      },
    ),
    λ p.
        let stands : StandsBelow (d + 1) layers x = is.found d x lt p.1.way in
        elim (cases_eq stands.0 d) [
          | inl e ↦ subst (λ i. Contains (at layers i) x) e stands.2
          | inr other ↦
              let less : stands.0 < d = (let h = stands.1 in omega (arith, h, other)) in
              absurd (p.1.shortest stands.0 less
              (is.sound stands.0 x (omega (arith, less, lt)) stands.2).1)
        ],
  );
  rising = is.rising d lt;
}
