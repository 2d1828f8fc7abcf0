-- Marks of a row, from its begin on.
use Rattle.std.proofs.Common.{◌≡◌, ◌≢◌, ℕ, ◌+◌, ◌-◌, ◌<◌, ◌≤◌, ◌^◌, ◌⊎◌, inl, inr, List, Vec, Global, length}
use Rattle.std.proofs.Common.{set, vec_len, sym, ap, subst, ◌∙◌, arith, get_or-set_same, get_or-set_other}
use Rattle.std.specs.Prelude.{Contains}
use Rattle.std.proofs.lemmas.Bool.{cases_eq, cases_lt}
use Rattle.std.proofs.lemmas.List.{length-set}
use Rattle.list_rule.specs.Spots.{AreSpotsOf, Stands, row, spots_at}
use Rattle.list_rule.specs.Marks.{IsBegun, mark_at}
use Rattle.list_rule.specs.Judging.{AreMarks, Asked, IsJudging, IsMark, IsRightBehind, depth_of}
use Rattle.list_rule.specs.declared.spot.Spot.{Spot}
use Rattle.list_rule.specs.declared.marks.Mark.{Mark}
use Rattle.list_rule.specs.declared.marks.State.{State}

pub begun : (n : ℕ) (a : Asked) (spots : List (Vec Spot Global)) (bound : ℕ) (old new : State)
    → AreSpotsOf n a.lists spots → ((l : ℕ) → length (row a.lists l) < 2 ^ 32)
    → vec_len old.marks ≡ length a.lists → IsBegun (spots_at spots a.source) old new
    → IsJudging a spots bound new
begun n a spots bound old new are short count is = record {
  fits = record { count = omega (arith, new.marks.ok, is.count, count); rows = is.rows };
  marks = λ l row.
      let mark = is.marks l row in
      record {
        compared = λ j y past stands counts.
            absurd (let h = stands.within in let s = short l in let e = mark.end in omega (arith, h, s, e, past));
        found = λ s here. are.sound a.source (record { list = l; place = s }) (mark.found s here);
      };
  noted = is.noted;
}

pub deeper : (a : Asked) (spots : List (Vec Spot Global)) (b d : ℕ) (st : State) → b ≤ d
    → IsJudging a spots b st → IsJudging a spots d st
deeper a spots b d st le is = record {
  fits = is.fits;
  marks = λ l row.
      let mark = is.marks l row in
      record {
        compared = λ j y past stands counts.
            (let low = mark.compared j y past stands counts in omega (arith, low, le));
        found = mark.found;
      };
  noted = is.noted;
}

-- the mark of a list in this row
pub record IsMarkOf (st : State) (l : ℕ) (m : Mark) : Type 0 where
  pub row : m.row ≡ st.row
  pub written : (mark_at st.marks.items l).row ≡ st.row → m ≡ mark_at st.marks.items l
  pub unwritten : (mark_at st.marks.items l).row ≢ st.row
      → m ≡ record { row = st.row; end = 2 ^ 32 - 1; behind_source = 0 }

pub mark_is : (a : Asked) (spots : List (Vec Spot Global)) (bound : ℕ) (st : State) (l : ℕ) (m : Mark)
    → length (row a.lists l) < 2 ^ 32 → IsMarkOf st l m → IsJudging a spots bound st → IsMark a bound l m
mark_is a spots bound st l m short of is = elim (cases_eq (mark_at st.marks.items l).row st.row) [
  | inl e ↦ subst (λ (k : Mark). IsMark a bound l k) (sym (of.written e)) (is.marks l e)
  | inr other ↦
      let none : IsMark a bound l (record { row = st.row; end = 2 ^ 32 - 1; behind_source = 0 }) = record {
        compared = λ j y past stands counts. absurd (let h = stands.within in omega (arith, h, short, past));
        found = λ s here. absurd (omega (arith, here));
      } in
      subst (λ (k : Mark). IsMark a bound l k) (sym (of.unwritten other)) none
]

-- the source does not stand at the mark's place or behind it
pub seen : (n : ℕ) (a : Asked) (spots : List (Vec Spot Global)) (bound : ℕ) (st : State) (q : Spot) (m : Mark)
    (x s : ℕ) → AreSpotsOf n a.lists spots → Contains (spots_at spots x) q → IsMarkOf st q.list m
    → IsJudging a spots bound st → Stands a.lists q.list s a.source → s < m.behind_source
seen n a spots bound st q m x s are listed of is stands =
    let noted = is.noted (record { list = q.list; place = s }) (are.whole x q a.source s listed stands) in
    subst (λ (k : Mark). s < k.behind_source) (sym (of.written noted.row)) noted.behind

pub right_behind : (a : Asked) (bound : ℕ) (q : Spot) (m : Mark)
    → ((s : ℕ) → Stands a.lists q.list s a.source → s < m.behind_source) → m.behind_source ≤ q.place + 1
    → ((j y : ℕ) → q.place < j → Stands a.lists q.list j y → a.first ≤ y → depth_of a y ≤ bound)
    → IsRightBehind a bound q
right_behind a bound q m all low gradual = record {
  gradual = gradual;
  deep = λ s later stands. (let lt = all s stands in omega (arith, lt, later, low));
}

-- up to the mark it was read, and from there on compared before
pub gradual_to_end : (a : Asked) (bound : ℕ) (q : Spot) (m : Mark) → IsMark a bound q.list m
    → ((j y : ℕ) → q.place < j → j < m.end → Stands a.lists q.list j y → a.first ≤ y → depth_of a y ≤ bound)
    → (j y : ℕ) → q.place < j → Stands a.lists q.list j y → a.first ≤ y → depth_of a y ≤ bound
gradual_to_end a bound q m is read j y later stands counts = elim (cases_lt j m.end) [
  | inl low ↦ read j y later low stands counts
  | inr past ↦ is.compared j y past stands counts
]

-- the mark of a spot's list is set behind the spot
module _ (a : Asked) (spots : List (Vec Spot Global)) (bound : ℕ) (q : Spot) (m : Mark) (old new : State)
    (is : IsJudging a spots bound old) (of : IsMarkOf old q.list m) (within : q.list < length a.lists)
    (row : new.row ≡ old.row)
    (marks : new.marks.items ≡ set old.marks.items q.list
    (record { row = m.row; end = q.place + 1; behind_source = m.behind_source })) where
  abbrev now : Mark
  now = record { row = m.row; end = q.place + 1; behind_source = m.behind_source }

  here : (l : ℕ) → l ≡ q.list → mark_at new.marks.items l ≡ now
  here l e =
      ap (λ k. mark_at new.marks.items k) e ∙ ap (λ (ms : List Mark). mark_at ms q.list) marks
      ∙ get_or-set_same old.marks.items q.list now (record { row = 0; end = 0; behind_source = 0 })
      (let count = is.fits.count in omega (arith, count, within))

  there : (l : ℕ) → l ≢ q.list → mark_at new.marks.items l ≡ mark_at old.marks.items l
  there l other =
      ap (λ (ms : List Mark). mark_at ms l) marks
      ∙ get_or-set_other old.marks.items q.list l now (record { row = 0; end = 0; behind_source = 0 }) other

  pub swept : IsMark a bound q.list m
      → ((j y : ℕ) → q.place < j → Stands a.lists q.list j y → a.first ≤ y → depth_of a y ≤ bound)
      → IsJudging a spots bound new
  swept mark gradual = record {
    fits = record {
      count = ap (λ (ms : List Mark). length ms) marks ∙ length-set old.marks.items q.list now ∙ is.fits.count;
      rows = λ l. elim (cases_eq l q.list) [
        | inl e ↦
            (let r = ap (λ (k : Mark). k.row) (here l e) in let s = of.row in omega (arith, r, s, row))
        | inr other ↦
            (let r = ap (λ (k : Mark). k.row) (there l other) in
            let s = is.fits.rows l in
            omega (arith, r, s, row))
      ];
    };
    marks = λ l this. elim (cases_eq l q.list) [
      | inl e ↦
          let made : IsMark a bound q.list now = record {
            compared = λ j y past stands counts. gradual j y (omega (arith, past)) stands counts;
            found = mark.found;
          } in
          subst (λ (k : Mark). IsMark a bound l k) (sym (here l e))
          (subst (λ i. IsMark a bound i now) (sym e) made)
      | inr other ↦
          let was : (mark_at old.marks.items l).row ≡ old.row =
          sym (ap (λ (k : Mark). k.row) (there l other)) ∙ this ∙ row in
          subst (λ (k : Mark). IsMark a bound l k) (sym (there l other)) (is.marks l was)
    ];
    noted = λ p listed.
        let was = is.noted p listed in
        elim (cases_eq p.list q.list) [
          | inl e ↦
              let there_was : (mark_at old.marks.items q.list).row ≡ old.row =
              subst (λ i. (mark_at old.marks.items i).row ≡ old.row) e was.row in
              let low : p.place < (mark_at old.marks.items q.list).behind_source =
              subst (λ i. p.place < (mark_at old.marks.items i).behind_source) e was.behind in
              let same : m.behind_source ≡ (mark_at old.marks.items q.list).behind_source =
              ap (λ (k : Mark). k.behind_source) (of.written there_was) in
              record {
                row = ap (λ (k : Mark). k.row) (here p.list e) ∙ of.row ∙ sym row;
                behind =
                    (let b = ap (λ (k : Mark). k.behind_source) (here p.list e) in
                    omega (arith, b, same, low));
              }
          | inr other ↦
              record {
                row = ap (λ (k : Mark). k.row) (there p.list other) ∙ was.row ∙ sym row;
                behind =
                    (let b = ap (λ (k : Mark). k.behind_source) (there p.list other) in
                    let low = was.behind in
                    omega (arith, b, low));
              }
        ];
  }

-- one mark of this row is written, or none
pub fits_after : (lists : List (List ℕ)) (old new : State) (l : ℕ) (m : Mark) → AreMarks lists old
    → m.row ≡ old.row → new.row ≡ old.row → l < length lists
    → (new.marks.items ≡ set old.marks.items l m) ⊎ (new.marks.items ≡ old.marks.items) → AreMarks lists new
fits_after lists old new l m is row same within cases = elim cases [
  | inl e ↦
      record {
        count = ap (λ (ms : List Mark). length ms) e ∙ length-set old.marks.items l m ∙ is.count;
        rows = λ k.
            let none : Mark = record { row = 0; end = 0; behind_source = 0 } in
            let at : mark_at new.marks.items k ≡ mark_at (set old.marks.items l m) k =
            ap (λ (ms : List Mark). mark_at ms k) e in
            elim (cases_eq k l) [
              | inl here ↦
                  let is_m : mark_at new.marks.items k ≡ m =
                  at ∙ ap (λ i. mark_at (set old.marks.items l m) i) here
                  ∙ get_or-set_same old.marks.items l m none
                  (let count = is.count in omega (arith, count, within)) in
                  (let r = ap (λ (n : Mark). n.row) is_m in omega (arith, r, row, same))
              | inr other ↦
                  (let r = ap (λ (n : Mark). n.row) (at ∙ get_or-set_other old.marks.items l k m none other) in
                  let low = is.rows k in
                  omega (arith, r, low, same))
            ];
      }
  | inr e ↦
      record {
        count = ap (λ (ms : List Mark). length ms) e ∙ is.count;
        rows = λ k.
            (let r = ap (λ (ms : List Mark). (mark_at ms k).row) e in
            let low = is.rows k in
            omega (arith, r, low, same));
      }
]
