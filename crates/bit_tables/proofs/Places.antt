-- Lists from their end on.
use Rattle.std.proofs.Common.{◌≡◌, ℕ, ◌+◌, ◌/◌, ◌<◌, ◌≤◌, ◌⊎◌, ◌∙◌, List, [], ◌∷◌, ◌++◌, Some, Vec, Global}
use Rattle.std.proofs.Common.{length, get_or, set, ap, sym, subst, inl, inr, arith, get_or-set_same}
use Rattle.std.proofs.Common.{get_or-set_other, length-set}
use Rattle.std.specs.Prelude.{◌↔◌, slice_get, Contains}
use Rattle.std.proofs.lemmas.Bool.{cases_eq, cases_lt}
use Rattle.std.proofs.lemmas.List.{get_or_append_left, length-append}
use Rattle.std.proofs.Math.Seq.{get_or-append_seam}
use Rattle.std.proofs.lemmas.Option.{slice_get_within}
use Rattle.bit_tables.specs.Sets.{Has}
use Rattle.bit_tables.specs.Lists.{HasInOrder, HasList, HaveWidth, IsShown, IsTableOf, row_of}
use Rattle.bit_tables.specs.Backs.{IsAfter, IsBack, StandsFrom}
use Rattle.bit_tables.specs.declared.noting.Back.{Back}

-- from place i on the list has a at a lesser place than b
abbrev pub InOrderFrom : ℕ → List ℕ → ℕ → ℕ → Type 0
InOrderFrom i w a b =
    (p : ℕ) × (q : ℕ) × (i ≤ p) × (p < q) × (slice_get w p ≡ Some a) × (slice_get w q ≡ Some b)

-- the rows have what they had, and what the list shows from i on
abbrev pub AreNoted : ℕ → List ℕ → List (List ℕ) → List (List ℕ) → Type 0
AreNoted i w old rows =
    (a b : ℕ) → a < length old → Has (row_of rows a) b ↔ (Has (row_of old a) b ⊎ InOrderFrom i w a b)

-- the rows have what they had, and what stands after the number at place i
abbrev pub AreNotedAt : ℕ → List ℕ → List (List ℕ) → List (List ℕ) → Type 0
AreNotedAt i w old rows = (a b : ℕ) → a < length old → Has (row_of rows a) b
    ↔ (Has (row_of old a) b ⊎ ((slice_get w i ≡ Some a) × StandsFrom (i + 1) w b))

pub after_none : (w after : List ℕ) → ((x : ℕ) → ¬ Has after x) → IsAfter (length w) w after
after_none w after none x = (
  λ has. absurd (none x has),
  λ (j, past, at). absurd (let within : j < length w =
      slice_get_within w j x at in omega arith),
)

pub noted_none : (w : List ℕ) (rows : List (List ℕ)) → AreNoted (length w) w rows rows
noted_none w rows a b within = (
  λ has. inl has,
  λ h. elim h [
    | inl old ↦ old
    | inr shown ↦
        absurd (let inside : shown.0 < length w = slice_get_within w shown.0 a shown.4 in omega arith)
  ],
)

pub noted_all : (w : List ℕ) (old rows : List (List ℕ)) → AreNoted 0 w old rows
    → (a b : ℕ) → a < length old → Has (row_of rows a) b ↔ (Has (row_of old a) b ⊎ HasInOrder w a b)
noted_all w old rows noted a b within = (
  λ has. elim ((noted a b within).0 has) [ inl was ↦ inl was | inr s ↦ inr (s.0, s.1, s.3, s.4, s.5) ],
  λ h. elim h [
    | inl was ↦ (noted a b within).1 (inl was)
    | inr s ↦ (noted a b within).1 (inr (s.0, s.1, (omega arith), s.2, s.3, s.4))
  ],
)

module _ (i : ℕ) (w : List ℕ) (x : ℕ) (here : slice_get w i ≡ Some x) where
  -- one place more
  pub after_step : (after new : List ℕ) → IsAfter (i + 1) w after
      → ((y : ℕ) → Has new y ↔ (Has after y ⊎ (y ≡ x))) → IsAfter i w new
  after_step after new is grown y = (
    λ has. elim ((grown y).0 has) [
      | inl old ↦ let s = (is y).0 old in (s.0, (omega arith), s.2)
      | inr same ↦ (i, (omega arith), here ∙ ap Some (sym same))
    ],
    λ (j, low, at).
        (grown y).1
        (elim (cases_eq j i) [
          | inl e ↦ let at_i : slice_get w i ≡ Some y = ap (slice_get w) (sym e) ∙ at in inr cc
          | inr apart ↦ inl ((is y).1 (j, (omega arith), at))
        ]),
  )

  -- the row of the number at the place has what it had, and what stands after it
  pub row_step : (after row : List ℕ) (rows : List (List ℕ)) → x < length rows → IsAfter (i + 1) w after
      → ((y : ℕ) → Has row y ↔ (Has (row_of rows x) y ⊎ Has after y)) → AreNotedAt i w rows (set rows x row)
  row_step after row rows within is grown a b low =
      elim (cases_eq a x) as (λ _. Has (row_of (set rows x row) a) b
      ↔ (Has (row_of rows a) b ⊎ ((slice_get w i ≡ Some a) × StandsFrom (i + 1) w b))) [
        | inl same ↦
            let whole : row_of (set rows x row) a ≡ row =
            ap (row_of (set rows x row)) same ∙ get_or-set_same rows x row [] within in
            rw whole (
              λ has. elim ((grown b).0 has) [
                | inl was ↦ inl (rw same was)
                | inr later ↦ inr (here ∙ ap Some (sym same), (is b).0 later)
              ],
              λ h. (grown b).1 (elim h [ inl was ↦ inl (rw same at was) | inr s ↦ inr ((is b).1 s.1) ]),
            )
        | inr apart ↦
            let kept : row_of (set rows x row) a ≡ row_of rows a = get_or-set_other rows x a row [] apart in
            rw kept (
              λ has. inl has,
              λ h. elim h [
                | inl was ↦ was
                | inr s ↦
                    absurd (let at_i : slice_get w i ≡ Some a = s.0 in let is_x : a ≡ x = cc in apart is_x)
              ],
            )
      ]

  -- what is known of the list, one place more: the number is fresh, or stands in the known list before the
  -- others
  pub back_step : (known : List ℕ) (b : Back) (after : List ℕ) (fresh : Vec ℕ Global) (places : Vec ℕ Global)
      (next : ℕ) → IsBack known w (i + 1) b
      → ((y : ℕ) → Has after y ↔ (Has b.after y ⊎ (y ≡ x)))
      → ((y : ℕ) → Contains b.fresh.items y → Contains fresh.items y)
      → ((y : ℕ) → Contains fresh.items y → Contains b.fresh.items y ⊎ (x ≡ y))
      → next ≤ b.next → Contains fresh.items x ⊎ StandsFrom next known x
      → IsBack known w i (record { after = after; fresh = fresh; places = places; next = next })
  back_step known b after fresh places next is grown more only earlier named = record {
    after = after_step b.after after is.after grown;
    fresh = λ y contains. (grown y).1 (elim (only y contains) [
      | inl old ↦ inl (is.fresh y old)
      | inr e ↦
          inr (sym e)
    ]);
    kept = λ y has. elim ((grown y).0 has) [
      | inl old ↦ elim (is.kept y old) [
        | inl contains ↦ inl (more y contains)
        | inr stands ↦ inr (stands.0, omega (arith, earlier, stands.1), stands.2)
      ]
      | inr e ↦ subst (λ z. Contains fresh.items z ⊎ StandsFrom next known z) (sym e) named
    ];
  }

-- one place more of the list is noted
pub noted_step : (i : ℕ) (w : List ℕ) (old rows new : List (List ℕ)) → length rows ≡ length old
    → AreNotedAt i w rows new → AreNoted (i + 1) w old rows → AreNoted i w old new
noted_step i w old rows new len one noted a b low = (
  λ has. elim ((one a b (omega (arith, low, len))).0 has) [
    | inl was ↦ elim ((noted a b low).0 was) [
      | inl o ↦ inl o
      | inr s ↦ inr (s.0, s.1, (omega arith), s.3, s.4, s.5)
    ]
    | inr s ↦ let later = s.1 in inr (i, later.0, (omega arith), (omega arith), s.0, later.2)
  ],
  λ h. (one a b (omega (arith, low, len))).1
      (elim h [
        | inl o ↦ inl ((noted a b low).1 (inl o))
        | inr s ↦
            elim (cases_eq s.0 i) [
              | inl first ↦ inr (ap (slice_get w) (sym first) ∙ s.4, (s.1, omega arith, s.5))
              | inr past ↦ inl ((noted a b low).1 (inr (s.0, s.1, (omega arith), s.3, s.4, s.5)))
            ]
      ]),
)

-- what the rows have of a list, they have when more is noted
pub list_stays : (known : List ℕ) (i : ℕ) (w : List ℕ) (old new : List (List ℕ)) → length new ≡ length old
    → AreNoted i w old new → HasList old known → HasList new known
list_stays known i w old new len noted has a b low shown =
    (noted a b (omega (arith, low, len))).1 (inl (has a b (omega (arith, low, len)) shown))

-- a number that stands in the known list before the place `next` has in its row all that is kept, and has all
-- with the fresh ones
pub kept_grown : (known w : List ℕ) (j place x : ℕ) (b : Back) (rows : List (List ℕ)) (row : List ℕ)
    → x < length rows → HasList rows known → IsBack known w j b
    → place < b.next → slice_get known place ≡ Some x
    → ((y : ℕ) → Has (row_of rows x) y → Has row y) → ((y : ℕ) → Contains b.fresh.items y → Has row y)
    → ((y : ℕ) → Has row y → Has (row_of rows x) y ⊎ Has b.after y)
    → (y : ℕ) → Has row y ↔ (Has (row_of rows x) y ⊎ Has b.after y)
kept_grown known w j place x b rows row within has back before there stays few only y = (
  only y,
  λ h. elim h [
    | inl was ↦ stays y was
    | inr after ↦ elim (back.kept y after) [
      | inl contains ↦ few y contains
      | inr stands ↦
          stays y (has x y within (place, stands.0, omega (arith, before, stands.1), there, stands.2))
    ]
  ],
)

pub width_set : (width : ℕ) (rows : List (List ℕ)) (x : ℕ) (row : List ℕ) → HaveWidth width rows
    → length row ≡ width → HaveWidth width (set rows x row)
width_set width rows x row all same a within =
    let inside : a < length rows = omega (arith, length-set rows x row) in
    elim (cases_eq a x) [
      | inl here ↦
          let x_in : x < length rows = omega arith in
          ap length (ap (row_of (set rows x row)) here ∙ get_or-set_same rows x row [] x_in) ∙ same
      | inr apart ↦ ap length (get_or-set_other rows x a row [] apart) ∙ all a inside
    ]

-- a table of no list
pub table_none : (n : ℕ) (rows : List (List ℕ)) → length rows ≡ n → HaveWidth (n / 64 + 1) rows
    → ((a b : ℕ) → a < n → Has (row_of rows a) b → ⊥) → IsTableOf n [] rows
table_none n rows len width none = record {
  len = len;
  width = width;
  shown = λ a b low. (
    (λ has. absurd (none a b low has)),
    (λ s. absurd (let bad : s.0 < 0 = s.1 in omega (arith, bad))),
  );
}

-- one list more
module _ (lists : List (List ℕ)) (w : List ℕ) (a b : ℕ) where
  size : length (lists ++ w ∷ []) ≡ length lists + 1
  size = length-append lists (w ∷ [])

  shown_more : IsShown lists a b ⊎ HasInOrder w a b → IsShown (lists ++ w ∷ []) a b
  shown_more (inl s) = (
    s.0,
    omega (arith, s.1, size),
    subst (λ (l : List ℕ). HasInOrder l a b) (sym (get_or_append_left lists (w ∷ []) [] s.0 s.1)) s.2,
  )
  shown_more (inr s) = (
    length lists,
    omega (arith, size),
    subst (λ (l : List ℕ). HasInOrder l a b) (sym (get_or-append_seam lists w [] [])) s,
  )

  shown_less : IsShown (lists ++ w ∷ []) a b → IsShown lists a b ⊎ HasInOrder w a b
  shown_less s = elim (cases_lt s.0 (length lists)) [
    | inl lt ↦
        inl (
          s.0,
          lt,
          subst (λ (l : List ℕ). HasInOrder l a b) (get_or_append_left lists (w ∷ []) [] s.0 lt) s.2,
        )
    | inr ge ↦
        let same : s.0 ≡ length lists = omega (arith, ge, s.1, size) in
        inr (subst (λ (l : List ℕ). HasInOrder l a b) (ap (λ (i : ℕ). get_or (lists ++ w ∷ []) i []) same
        ∙ get_or-append_seam lists w [] []) s.2)
  ]

pub table_more : (lists : List (List ℕ)) (w : List ℕ) (old new : List (List ℕ)) → length new ≡ length old
    → HaveWidth (length old / 64 + 1) new
    → ((a b : ℕ) → a < length old → Has (row_of new a) b ↔ (Has (row_of old a) b ⊎ HasInOrder w a b))
    → IsTableOf (length old) lists old → IsTableOf (length old) (lists ++ w ∷ []) new
table_more lists w old new len width noted is = record {
  len = len;
  width = width;
  shown = λ a b low. (
    λ has. shown_more lists w a b (elim ((noted a b low).0 has) [
      | inl was ↦
          inl ((is.shown a b low).0 was)
      | inr s ↦ inr s
    ]),
    λ s. (noted a b low).1 (elim (shown_less lists w a b s) [
      | inl was ↦
          inl ((is.shown a b low).1 was)
      | inr shown ↦ inr shown
    ]),
  );
}
