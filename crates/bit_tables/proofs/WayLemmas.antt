-- Layers of numbers by how many steps lead to them: none at first, one layer more, and what all of them say.
use Rattle.std.proofs.Common.{◌≡◌, ℕ, zero, suc, ◌+◌, ◌<◌, ◌≤◌, ◌⊎◌, inl, inr, ◌∙◌, List, [], ◌∷◌, ◌++◌}
use Rattle.std.proofs.Common.{length, get_or, ap, sym, refl, subst, arith}
use Rattle.std.specs.Prelude.{◌↔◌, Contains}
use Rattle.std.specs.List.Sorted.{IsStrictlyIncreasing}
use Rattle.std.proofs.lemmas.Bool.{cases_eq, cases_lt}
use Rattle.std.proofs.lemmas.List.{get_or_past, get_or_append_left, length-append}
use Rattle.std.proofs.Math.Seq.{get_or-append_seam}
use Rattle.bit_tables.specs.Sets.{Has, room}
use Rattle.bit_tables.specs.Lists.{row_of}
use Rattle.bit_tables.specs.Rule.{StandsBelow}
use Rattle.bit_tables.specs.Ways.{AreThoseBelow, IsStep, Way, IsLayerAt}
use Rattle.bit_tables.proofs.SetLemmas.{Has-either, Has-room}

-- the layer at a place
abbrev pub at : List (List ℕ) → ℕ → List ℕ
at layers d = get_or layers d []

-- a number that has a row with a number is below the count of rows
pub row-within : (rows : List (List ℕ)) (c x : ℕ) → Has (row_of rows c) x → c < length rows
row-within rows c x has = elim (cases_lt c (length rows)) [
  | inl within ↦ within
  | inr past ↦
      let none : row_of rows c ≡ [] = get_or_past rows c [] past in
      let low : x < room (row_of rows c) = Has-room (row_of rows c) x has in
      let size : length (row_of rows c) ≡ 0 = ap length none in
      absurd (omega (arith, low, size))
]

-- what is known of the first m layers of so many; what they show is known only where another layer follows
pub record IsWalked (most n first source m : ℕ) (rows layers : List (List ℕ)) (reached shown : List ℕ) :
    Type 0 where
  pub count : length layers ≡ m
  pub reached_is : (y : ℕ) → Has reached y ↔ ((y < first) ⊎ StandsBelow m layers y)
  pub shown_is : m < most → (y : ℕ) → first ≤ y → Has shown y
      ↔ ((y ≡ source) ⊎ ((x : ℕ) × StandsBelow m layers x × Has (row_of rows x) y))
  pub sound : (j x : ℕ) → j < m → Contains (at layers j) x → (x < n) × Way rows first j source x
  pub found : (j x : ℕ) → j < m → x < n → Way rows first j source x → StandsBelow (j + 1) layers x
  pub apart : (i j x : ℕ) → i < j → j < m → Contains (at layers i) x → Contains (at layers j) x → ⊥
  pub rising : (j : ℕ) → j < m → IsStrictlyIncreasing (at layers j)

module _ (most n first source : ℕ) (rows : List (List ℕ)) (size : length rows ≡ n) (counts : first ≤ source)
    (within : source < n) where
  -- a way from a number that counts leads to one that counts
  way-counts : (j x : ℕ) → Way rows first j source x → first ≤ x
  way-counts zero x way = subst (λ y. first ≤ y) way counts
  way-counts (suc j) x way = way.2.to

  -- before the first layer
  pub walked_none : (reached shown : List ℕ) → ((y : ℕ) → Has reached y ↔ (y < first))
      → ((y : ℕ) → Has shown y ↔ (y ≡ source)) → IsWalked most n first source 0 rows [] reached shown
  walked_none reached shown below source_alone = record {
    count = refl;
    reached_is = λ y. (
      λ has. inl ((below y).0 has),
      λ s. elim s [
        | inl low ↦ (below y).1 low
        | inr stands ↦
            absurd (let none : stands.0 < 0 = stands.1 in omega (arith, none))
      ],
    );
    shown_is = λ _ y _. (
      λ has. inl ((source_alone y).0 has),
      λ s. elim s [
        | inl e ↦ (source_alone y).1 e
        | inr p ↦ absurd (let none : p.1.0 < 0 = p.1.1 in
            omega (arith, none))
      ],
    );
    sound = λ j x lt c. absurd (omega (arith, lt));
    found = λ j x lt known way. absurd (omega (arith, lt));
    apart = λ i j x less lt c d. absurd (omega (arith, lt));
    rising = λ j lt. absurd (omega (arith, lt));
  }

  -- what a way of m steps leads to is shown by the first m layers
  shows : (m : ℕ) (layers : List (List ℕ)) (reached shown : List ℕ)
      → IsWalked most n first source m rows layers reached shown → m < most → (x : ℕ)
      → Way rows first m source x → Has shown x
  shows zero layers reached shown is more x way =
      (is.shown_is more x (way-counts zero x way)).1 (inl (sym way))
  shows (suc m) layers reached shown is more x way =
      let known : way.0 < n = (let lt = row-within rows way.0 x way.2.has in omega (arith, lt, size)) in
      let stands : StandsBelow (m + 1) layers way.0 = is.found m way.0 (omega arith) known way.1 in
      let all : StandsBelow (suc m) layers way.0 =
      (stands.0, (let lt = stands.1 in omega (arith, lt)), stands.2) in
      (is.shown_is more x way.2.to).1 (inr (way.0, all, way.2.has))

  module _ (m : ℕ) (layers : List (List ℕ)) (layer reached shown reached' shown' : List ℕ)
      (is : IsWalked most n first source m rows layers reached shown) (more : m < most)
      (new : AreThoseBelow (λ x. Has shown x × (¬ Has reached x)) n layer) (more_reached : (y : ℕ)
      → Has reached' y ↔ (Has reached y ⊎ Contains layer y))
      (more_shown : m + 1 < most → (y : ℕ) → first ≤ y → Has shown' y
      ↔ (Has shown y ⊎ ((x : ℕ) × Contains layer x × Has (row_of rows x) y))) where
    abbrev all : List (List ℕ)
    all = layers ++ layer ∷ []

    old : (j : ℕ) → j < m → at all j ≡ at layers j
    old j lt = get_or_append_left layers (layer ∷ []) [] j (omega (arith, lt, is.count))

    last : at all m ≡ layer
    last = ap (at all) (sym is.count) ∙ get_or-append_seam layers layer [] []

    stays : (k x : ℕ) → k ≤ m → StandsBelow k layers x → StandsBelow k all x
    stays k x le s =
        (s.0, s.1, subst (λ l. Contains l x) (sym (old s.0 (let lt = s.1 in omega (arith, lt, le)))) s.2)

    later : (k j x : ℕ) → k ≤ j → StandsBelow k all x → StandsBelow j all x
    later k j x le s = (s.0, (let lt = s.1 in omega (arith, lt, le)), s.2)

    split : (x : ℕ) → StandsBelow (m + 1) all x → StandsBelow m layers x ⊎ Contains layer x
    split x s = elim (cases_eq s.0 m) [
      | inl e ↦ inr (subst (λ l. Contains l x) (ap (at all) e ∙ last) s.2)
      | inr other ↦
          let lt : s.0 < m = (let h = s.1 in omega (arith, h, other)) in
          inl (s.0, lt, subst (λ l. Contains l x) (old s.0 lt) s.2)
    ]

    join : (x : ℕ) → StandsBelow m layers x ⊎ Contains layer x → StandsBelow (m + 1) all x
    join x s = elim s [
      | inl before ↦ later m (m + 1) x (omega arith) (stays m x (omega arith) before)
      | inr here ↦ (m, omega arith, subst (λ l. Contains l x) (sym last) here)
    ]

    -- a number of the new layer is not reached before
    unreached : (x : ℕ) → Contains layer x → StandsBelow m layers x → ⊥
    unreached x c s = ((new.has x).0 c).1.1 ((is.reached_is x).1 (inr s))

    new-counts : (x : ℕ) → Contains layer x → first ≤ x
    new-counts x c = elim (cases_lt x first) [
      | inl low ↦ absurd (((new.has x).0 c).1.1 ((is.reached_is x).1 (inl low)))
      | inr high ↦ high
    ]

    new-way : (x : ℕ) → Contains layer x → Way rows first m source x
    new-way x c = elim ((is.shown_is more x (new-counts x c)).0 ((new.has x).0 c).1.0) [
      | inl e ↦ elim (cases_lt 0 m) [
        | inl some ↦
            let stands : StandsBelow 1 layers source = is.found 0 source some within refl in
            let before : StandsBelow m layers x =
            subst (λ y. StandsBelow m layers y) (sym e) (
              stands.0,
              (let lt = stands.1 in omega (arith, lt, some)),
              stands.2,
            ) in
            absurd (unreached x c before)
        | inr none ↦
            let zero_steps : 0 ≡ m = omega (arith, none) in
            subst (λ j. Way rows first j source x) zero_steps (sym e)
      ]
      | inr s ↦
          let j : ℕ = s.1.0 in
          let lt : j < m = s.1.1 in
          let before = is.sound j s.0 lt s.1.2 in
          let step : IsStep rows first s.0 x =
          record { from = way-counts j s.0 before.1; to = new-counts x c; has = s.2 } in
          let way : Way rows first (suc j) source x = (s.0, before.1, step) in
          elim (cases_eq (suc j) m) [
            | inl e ↦ subst (λ i. Way rows first i source x) e way
            | inr other ↦
                let low : suc j < m = omega (arith, lt, other) in
                let stands : StandsBelow (suc j + 1) layers x =
                is.found (suc j) x low ((new.has x).0 c).0 way in
                absurd (unreached x c (stands.0, (let h = stands.1 in omega (arith, h, low)), stands.2))
          ]
    ]

    new-found : (x : ℕ) → x < n → Way rows first m source x → StandsBelow (m + 1) all x
    new-found x known way = elim (Has-either reached x) [
      | inl has ↦ elim ((is.reached_is x).0 has) [
        | inl low ↦ absurd (let high = way-counts m x way in omega (arith, low, high))
        | inr stands ↦ join x (inl stands)
      ]
      | inr not ↦ join x (inr ((new.has x).1 (known, (shows m layers reached shown is more x way, not))))
    ]

    -- one layer more
    pub walked_more : IsWalked most n first source (m + 1) rows all reached' shown'
    walked_more = record {
      count = length-push layers layer ∙ ap (λ k. k + 1) is.count;
      reached_is = λ y. (
        λ has. elim ((more_reached y).0 has) [
          | inl was ↦ elim ((is.reached_is y).0 was) [ inl low ↦ inl low | inr s ↦ inr (join y (inl s)) ]
          | inr here ↦ inr (join y (inr here))
        ],
        λ s. elim s [
          | inl low ↦ (more_reached y).1 (inl ((is.reached_is y).1 (inl low)))
          | inr stands ↦ elim (split y stands) [
            | inl before ↦ (more_reached y).1 (inl ((is.reached_is y).1 (inr before)))
            | inr here ↦ (more_reached y).1 (inr here)
          ]
        ],
      );
      shown_is = λ again y from. (
        λ has. elim ((more_shown again y from).0 has) [
          | inl was ↦
              elim ((is.shown_is more y from).0 was) [
                | inl e ↦ inl e
                | inr s ↦
                    inr (s.0, join s.0 (inl s.1), s.2)
              ]
          | inr s ↦ inr (s.0, join s.0 (inr s.1), s.2)
        ],
        λ s. elim s [
          | inl e ↦ (more_shown again y from).1 (inl ((is.shown_is more y from).1 (inl e)))
          | inr p ↦ elim (split p.0 p.1) [
            | inl before ↦
                (more_shown again y from).1 (inl ((is.shown_is more y from).1 (inr (p.0, before, p.2))))
            | inr here ↦ (more_shown again y from).1 (inr (p.0, here, p.2))
          ]
        ],
      );
      sound = λ j x lt c. elim (cases_eq j m) [
        | inl e ↦
            let here : Contains layer x = subst (λ l. Contains l x) (ap (at all) e ∙ last) c in
            (((new.has x).0 here).0, subst (λ i. Way rows first i source x) (sym e) (new-way x here))
        | inr other ↦
            let low : j < m = omega (arith, lt, other) in
            is.sound j x low (subst (λ l. Contains l x) (old j low) c)
      ];
      found = λ j x lt known way. elim (cases_eq j m) [
        | inl e ↦
            subst (λ i. StandsBelow (i + 1) all x) (sym e)
            (new-found x known (subst (λ i. Way rows first i source x) e way))
        | inr other ↦
            let low : j < m = omega (arith, lt, other) in
            stays (j + 1) x (omega (arith, low)) (is.found j x low known way)
      ];
      apart = λ i j x less lt c d.
          let low : i < m = omega (arith, less, lt) in
          let first_has : Contains (at layers i) x = subst (λ l. Contains l x) (old i low) c in
          elim (cases_eq j m) [
            | inl e ↦ unreached x (subst (λ l. Contains l x) (ap (at all) e ∙ last) d) (i, low, first_has)
            | inr other ↦
                let high : j < m = omega (arith, lt, other) in
                is.apart i j x less high first_has (subst (λ l. Contains l x) (old j high) d)
          ];
      rising = λ j lt. elim (cases_eq j m) [
        | inl e ↦ subst (λ l. IsStrictlyIncreasing l) (sym (ap (at all) e ∙ last)) new.rising
        | inr other ↦
            let low : j < m = omega (arith, lt, other) in
            subst (λ l. IsStrictlyIncreasing l) (sym (old j low)) (is.rising j low)
      ];
    }
      where
        length-push : (xs : List (List ℕ)) (x : List ℕ) → length (xs ++ x ∷ []) ≡ length xs + 1
        length-push xs x = length-append xs (x ∷ [])

  -- all layers
  pub walked-layer : (m : ℕ) (layers : List (List ℕ)) (reached shown : List ℕ)
      → IsWalked most n first source m rows layers reached shown → (d : ℕ) → d < m
      → IsLayerAt n rows first source d (at layers d)
  walked-layer m layers reached shown is d lt = record {
    has = λ x. (
      λ c. (
        (is.sound d x lt c).0,
        record {
          way = (is.sound d x lt c).1;
          shortest = λ fewer less way.
              let s : StandsBelow (fewer + 1) layers x =
              is.found fewer x (omega (arith, less, lt)) (is.sound d x lt c).0 way in
              is.apart s.0 d x (let h = s.1 in omega (arith, h, less)) lt s.2 c;
        },
      ),
      λ p.
          let s : StandsBelow (d + 1) layers x = is.found d x lt p.0 p.1.way in
          elim (cases_eq s.0 d) [
            | inl e ↦ subst (λ i. Contains (at layers i) x) e s.2
            | inr other ↦
                let less : s.0 < d = (let h = s.1 in omega (arith, h, other)) in
                absurd (p.1.shortest s.0 less (is.sound s.0 x (omega (arith, less, lt)) s.2).1)
          ],
    );
    rising = is.rising d lt;
  }
