-- Lists noted place by place.
use Rattle.std.proofs.Common.{◌≡◌, ℕ, ◌+◌, ◌<◌, ◌≤◌, ◌⊎◌, ◌∙◌, List, [], Some, Vec, Global, length}
use Rattle.std.proofs.Common.{get_or, set, ap, sym, inl, inr, arith, subst, get_or-set_same, get_or-set_other}
use Rattle.std.proofs.Common.{length-set}
use Rattle.std.specs.Prelude.{◌↔◌, Contains}
use Rattle.std.proofs.lemmas.Bool.{cases_eq, cases_lt}
use Rattle.std.proofs.lemmas.List.{get_or_past}
use Rattle.std.proofs.lemmas.Option.{slice_get_within, slice_get-get_or, get_or_from_slice_get}
use Rattle.std.specs.Vec.{with_item}
use Rattle.order_graph.specs.Lists.{BeforeIn, Stands, row}
use Rattle.bit_tables.specs.Sets.{Has}
use Rattle.bit_tables.specs.Lists.{HaveWidth, row_of}
use Rattle.bit_tables.proofs.Places.{width_set}
use Rattle.level_search.specs.Tables.{IsShown}
use Rattle.level_search.specs.Fronts.{AreLast, AreNotedTo, IsFront, IsShownTo, StandsBack}
use Rattle.level_search.specs.Fronts.{StandsTo}
use Rattle.level_search.specs.declared.before_table.front.Front.{Front}
use Rattle.order_graph.specs.declared.spot.Spot.{Spot}

-- one element stands at a place
pub one_stands : (lists : List (List ℕ)) (l p q x y : ℕ) → p ≡ q → Stands lists l p x → Stands lists l q y
    → x ≡ y
one_stands lists l p q x y e first second =
    sym first.here ∙ ap (λ i. get_or (row lists l) i 0) e ∙ second.here

-- what is shown up to one place is shown up to each place after its later one
shown_to : (lists : List (List ℕ)) (l i j a b : ℕ) (s : IsShownTo lists l i a b) → s.later < j
    → IsShownTo lists l j a b
shown_to lists l i j a b s early =
    record {
      place = s.place;
      later = s.later;
      in_order = s.in_order;
      within = early;
      first = s.first;
      second = s.second;
    }

shown_more : (lists : List (List ℕ)) (l j a b : ℕ) → IsShownTo lists l j a b → IsShownTo lists l (j + 1) a b
shown_more lists l j a b s = shown_to lists l j (j + 1) a b s (let w = s.within in omega arith)

-- the row of the element at place j has now what stands before it there
module _ (lists : List (List ℕ)) (l j x : ℕ) (here : Stands lists l j x) where
  pub noted_step : (rows : List (List ℕ)) (before new : List ℕ) → x < length rows
      → ((y : ℕ) → Has before y ↔ StandsTo lists l j y)
      → ((y : ℕ) → Has (row_of rows x) y → Has new y)
      → ((p y : ℕ) → p < j → Stands lists l p y → Has new y)
      → ((y : ℕ) → Has new y → Has (row_of rows x) y ⊎ Has before y)
      → AreNotedTo lists l j rows → AreNotedTo lists l (j + 1) (set rows x new)
  noted_step rows before new within is kept all only noted =
      let same : row_of (set rows x new) x ≡ new = get_or-set_same rows x new [] within in
      let others : (b : ℕ) → ¬ (b ≡ x) → row_of (set rows x new) b ≡ row_of rows b =
      λ b apart. get_or-set_other rows x b new [] apart in
      let long : length (set rows x new) ≡ length rows = length-set rows x new in
      record {
        sound = λ a b low has. elim (cases_eq b x) [
          | inl e ↦ elim (only a (rw (e, same) at has)) [
            | inl was ↦ elim (noted.sound a x within was) [
              | inl below ↦ inl (rw e below)
              | inr s ↦ inr (rw e (shown_more lists l j a x s))
            ]
            | inr early ↦
                let at = (is a).0 early in
                inr (rw e (record {
                  place = at.place;
                  later = j;
                  in_order = at.early;
                  within = omega arith;
                  first = at.stands;
                  second = here;
                }))
          ]
          | inr apart ↦
              elim (noted.sound a b (omega (arith, long)) (rw (others b apart) at has)) [
                | inl below ↦ inl below
                | inr s ↦ inr (shown_more lists l j a b s)
              ]
        ];
        below = λ a b low s. elim (cases_eq b x) [
          | inl e ↦ rw (e, same) (kept a (rw e at (noted.below a b (omega (arith, long)) s)))
          | inr apart ↦ rw (others b apart) (noted.below a b (omega (arith, long)) s)
        ];
        here = λ a b low s. elim (cases_lt s.later j) [
          | inl early ↦
              let was = noted.here a b (omega (arith, long)) (shown_to lists l (j + 1) j a b s early) in
              elim (cases_eq b x) [
                | inl e ↦ rw (e, same) (kept a (rw e at was))
                | inr apart ↦ rw (others b apart) was
              ]
          | inr late ↦
              let at_j : s.later ≡ j = let w = s.within in omega arith in
              let e : b ≡ x = one_stands lists l s.later j b x at_j s.second here in
              rw (e, same) (all s.place a (let o = s.in_order in omega arith) s.first)
        ];
      }

  pub before_step : (before new : List ℕ) → ((y : ℕ) → Has before y ↔ StandsTo lists l j y)
      → ((y : ℕ) → Has new y ↔ (Has before y ⊎ (y ≡ x)))
      → (y : ℕ) → Has new y ↔ StandsTo lists l (j + 1) y
  before_step before new is grown y = (
    λ has. elim ((grown y).0 has) [
      | inl old ↦ let at = (is y).0 old in
          record { place = at.place; early = (let e = at.early in omega arith); stands = at.stands }
      | inr e ↦
          record { place = j; early = omega arith; stands = subst (λ i. Stands lists l j i) (sym e) here }
    ],
    λ at. (grown y).1 (elim (cases_lt at.place j) [
      | inl early ↦ inl ((is y).1 (record { place = at.place; early = early; stands = at.stands }))
      | inr late ↦ inr (one_stands lists l at.place j y x (let e = at.early in omega arith) at.stands here)
    ]),
  )

-- nothing stands among the first 0 places
pub before_none : (lists : List (List ℕ)) (l : ℕ) (before : List ℕ) → ((x : ℕ) → ¬ Has before x) → (x : ℕ)
    → Has before x ↔ StandsTo lists l 0 x
before_none lists l before none x =
    (λ has. absurd (none x has), λ at. absurd (let e = at.early in omega arith))

-- all places of a list are noted
pub noted_all : (lists : List (List ℕ)) (l j : ℕ) (rows : List (List ℕ)) → length (row lists l) ≤ j
    → AreNotedTo lists l j rows → AreNotedTo lists (l + 1) 0 rows
noted_all lists l j rows past noted = record {
  sound = λ a b low has. elim (noted.sound a b low has) [
    | inl s ↦ inl (s.0, (let e = s.1 in omega arith), s.2)
    | inr s ↦
        inl (
          l,
          (omega arith),
          record {
            place = s.place;
            later = s.later;
            in_order = s.in_order;
            first =
                s.first;
            second = s.second;
          },
        )
  ];
  below = λ a b low s. elim (cases_lt s.0 l) [
    | inl early ↦ noted.below a b low (s.0, early, s.2)
    | inr late ↦
        let e : s.0 ≡ l = let lt = s.1 in omega arith in
        let t : BeforeIn lists l a b = subst (λ m. BeforeIn lists m a b) e s.2 in
        noted.here a b low (record {
          place = t.place;
          later = t.later;
          in_order = t.in_order;
          within =
              (let w = t.second.within in omega arith);
          first = t.first;
          second = t.second;
        })
  ];
  here = λ a b low s. absurd (let w = s.within in omega arith);
}

pub noted_none : (lists : List (List ℕ)) (rows : List (List ℕ))
    → ((a b : ℕ) → b < length rows → ¬ Has (row_of rows b) a) → AreNotedTo lists 0 0 rows
noted_none lists rows none = record {
  sound = λ a b low has. absurd (none a b low has);
  below = λ a b low s. absurd (let lt = s.1 in omega arith);
  here = λ a b low s. absurd (let w = s.within in omega arith);
}

-- all lists are noted
pub noted_shown : (lists : List (List ℕ)) (l : ℕ) (rows : List (List ℕ)) → length lists ≤ l
    → AreNotedTo lists l 0 rows
    → (a b : ℕ) → b < length rows → Has (row_of rows b) a ↔ IsShown lists a b
noted_shown lists l rows past noted a b low = (
  λ has. elim (noted.sound a b low has) [
    | inl s ↦ (s.0, s.2)
    | inr s ↦ absurd (let w = s.within in omega arith)
  ],
  λ s. noted.below a b low (
    s.0,
    elim (cases_lt s.0 (length lists)) [
      | inl within ↦ omega arith
      | inr over ↦
          absurd (let none : length (row lists s.0) ≡ 0 = ap length (get_or_past lists s.0 [] over) in
          let w = s.1.second.within in omega arith)
    ],
    s.1,
  ),
)

-- where elements stood last, with one element more
pub last_set : (lists : List (List ℕ)) (last : List Spot) (x l j : ℕ) → Stands lists l j x
    → AreLast lists last → AreLast lists (set last x (record { list = l; place = j }))
last_set lists last x l j here are y s read low =
    let at : Spot = record { list = l; place = j } in
    let got : get_or (set last x at) y s ≡ s = get_or_from_slice_get (set last x at) y s s read in
    let within : y < length last = let w = slice_get_within (set last x at) y s read in
    omega (arith, length-set last x at) in
    elim (cases_eq y x) [
      | inl e ↦
          let in_x : x < length last = omega arith in
          let same : at ≡ s =
          sym (ap (λ i. get_or (set last x at) i s) e ∙ get_or-set_same last x at s in_x) ∙ got in
          subst (λ i. Stands lists s.list s.place i) (sym e)
          (subst (λ (t : Spot). Stands lists t.list t.place x) same here)
      | inr apart ↦
          let old : get_or last y s ≡ s = sym (get_or-set_other last x y at s apart) ∙ got in
          are y s (slice_get-get_or last y s within ∙ ap Some old) low
    ]

-- one place more: whichever way the element's row is made
pub front_step : (lists : List (List ℕ)) (l j x : ℕ) → Stands lists l j x
    → (rows : List (List ℕ)) (f : Front) (new before : List ℕ) (fresh : Vec ℕ Global) (next : ℕ)
    → x < length rows → IsFront lists l j rows f → length new ≡ length f.before
    → ((y : ℕ) → Has (row_of rows x) y → Has new y)
    → ((p y : ℕ) → p < j → Stands lists l p y → Has new y)
    → ((y : ℕ) → Has new y → Has (row_of rows x) y ⊎ Has f.before y)
    → length before ≡ length f.before → ((y : ℕ) → Has before y ↔ (Has f.before y ⊎ (y ≡ x)))
    → ((y : ℕ) → Contains f.fresh.items y → Contains fresh.items y)
    → ((y : ℕ) → Contains fresh.items y → Contains f.fresh.items y ⊎ (x ≡ y))
    → f.next ≤ next → Contains fresh.items x ⊎ StandsBack lists l next x
    → IsFront lists l (j + 1) (set rows x new) (record {
      before = before;
      fresh = fresh;
      last =
          with_item f.last x (record { list = l; place = j });
      next = next;
    })
front_step lists l j x here rows f new before fresh next within front width kept all only wide grown more
    only_more forward named = record {
      sized = record {
        places = front.sized.places ∙ sym (length-set rows x new);
        width = subst (λ n. HaveWidth n (set rows x new)) (sym wide)
            (width_set (length f.before) rows x new front.sized.width width);
        room = (let r = front.sized.room in omega (arith, wide, length-set rows x new));
      };
      noted = noted_step lists l j x here rows f.before new within front.before kept all only front.noted;
      last = last_set lists f.last.items x l j here front.last;
      before = before_step lists l j x here f.before before front.before grown;
      fresh = λ y contains. elim (only_more y contains) [
        | inl old ↦ (grown y).1 (inl (front.fresh y old))
        | inr e ↦ (grown y).1 (inr (sym e))
      ];
      known = λ p y early stands. elim (cases_lt p j) [
        | inl old ↦ elim (front.known p y old stands) [
          | inl contains ↦ inl (more y contains)
          | inr back ↦
              inr (record {
                list = back.list;
                is_before = back.is_before;
                place = back.place;
                early =
                    (let e = back.early in omega arith);
                stands = back.stands;
              })
        ]
        | inr late ↦
            let e : x ≡ y = one_stands lists l j p x y (omega arith) here stands in
            subst (λ i. Contains fresh.items i ⊎ StandsBack lists l next i) e named
      ];
    }

-- an element that goes on where the list before has it stands there after all that are known from there
pub back_noted : (lists : List (List ℕ)) (l j x : ℕ) (rows : List (List ℕ)) (f : Front) (last : Spot)
    → x < length rows → IsFront lists l j rows f
    → last.list + 1 ≡ l → f.next ≤ last.place → Stands lists last.list last.place x → (y : ℕ)
    → StandsBack lists l f.next y → Has (row_of rows x) y
back_noted lists l j x rows f last within front before late stands y back =
    let same : back.list ≡ last.list = let b = back.is_before in omega arith in
    front.noted.below y x within (
      last.list,
      (omega arith),
      record {
        place = back.place;
        later = last.place;
        in_order = (let e = back.early in omega arith);
        first = subst (λ m. Stands lists m back.place y) same back.stands;
        second = stands;
      },
    )
