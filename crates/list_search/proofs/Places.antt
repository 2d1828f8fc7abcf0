-- Places of a list.
use Rattle.std.proofs.Common.{◌≡◌, ℕ, ◌+◌, ◌<◌, ◌≤◌, false, List, [], length, get_or, set, slice_index, sym}
use Rattle.std.proofs.Common.{ap, ◌∙◌, subst, Some, arith, inl, inr, get_or-set_same, get_or-set_other}
use Rattle.std.proofs.lemmas.Bool.{cases_lt, cases_eq}
use Rattle.std.proofs.lemmas.List.{get_or_past}
use Rattle.std.proofs.lemmas.Option.{get_or_from_slice_get}
use Rattle.std.specs.Prelude.{slice_get}
use Rattle.std.specs.Vec.{with_item}
use Rattle.order_graph.specs.Lists.{row, Stands}
use Rattle.list_search.specs.Graph.{Graph}
use Rattle.list_search.specs.Progress.{IsGood, IsReached}
use Rattle.list_search.specs.declared.searching.state.State.{State}

-- only a list that is there has places
pub row_within : (rows : List (List ℕ)) (l p : ℕ) → p < length (row rows l) → l < length rows
row_within rows l p inside = elim (cases_lt l (length rows)) [
  | inl h ↦ h
  | inr past ↦
      absurd (let none : length (row rows l) ≡ 0 = ap length (get_or_past rows l [] past) in omega arith)
]

-- what is read at a place stands there, and nothing else does
pub read_stands : (rows : List (List ℕ)) (l j y : ℕ) → j < length (row rows l)
    → slice_get (row rows l) j ≡ Some y → Stands rows l j y
read_stands rows l j y inside read =
    record { within = inside; here = get_or_from_slice_get (row rows l) j y 0 read }

pub stands_read : (rows : List (List ℕ)) (l j x y : ℕ) → slice_get (row rows l) j ≡ Some y → Stands rows l j x
    → x ≡ y
stands_read rows l j x y read stands = sym stands.here ∙ get_or_from_slice_get (row rows l) j y 0 read

-- a place past a mark that is set further was read, or is past the mark that was
pub past_marked : (rows : List (List ℕ)) (marks : List ℕ) (l p x : ℕ) (Q : Type 0) → l < length marks
    → ((j : ℕ) → p < j → j < slice_index marks l → Stands rows l j x → Q)
    → ((k j : ℕ) → slice_index marks k ≤ j → Stands rows k j x → Q) → (k j : ℕ)
    → get_or (set marks l (p + 1)) k 0 ≤ j → Stands rows k j x → Q
past_marked rows marks l p x Q within read before k j past stands = elim (cases_eq k l) [
  | inl same ↦
      let here : get_or (set marks l (p + 1)) l 0 ≡ p + 1 = get_or-set_same marks l (p + 1) 0 within in
      let behind : p + 1 ≤ j = let h = ap (λ i. get_or (set marks l (p + 1)) i 0) same in omega arith in
      let stands_here : Stands rows l j x = subst (λ i. Stands rows i j x) same stands in
      elim (cases_lt j (slice_index marks l)) [
        | inl early ↦ read j (omega arith) early stands_here
        | inr late ↦ before l j late stands_here
      ]
  | inr other ↦ before k j (subst (λ n. n ≤ j) (get_or-set_other marks l k (p + 1) 0 other) past) stands
]

-- a mark is set after a place once everything from there to the mark was read
pub good_marked : (g : Graph) (s l p : ℕ) (st : State) → IsGood g s st → p < length (row g.rows l)
    → ((j x : ℕ) → p < j → j < slice_index st.marks.items l → Stands g.rows l j x
    → IsReached st.queue.items st.tail x)
    → (st.found ≡ false → (j : ℕ) → p < j → j < slice_index st.marks.items l → ¬ Stands g.rows l j s)
    → IsGood g s (record st { marks = with_item st.marks l (p + 1) })
good_marked g s l p st good inside reached missed =
    let listed = row_within g.rows l p inside in
    let within : l < length st.marks.items = let h = good.fits.marks_len in omega arith in
    let here : get_or (set st.marks.items l (p + 1)) l 0 ≡ p + 1 =
    get_or-set_same st.marks.items l (p + 1) 0 within in
    record {
      fits = record {
        marks_len = good.fits.marks_len;
        seen_len = good.fits.seen_len;
        queue_len = good.fits.queue_len;
      };
      queued = record { queue_len = good.queued.queue_len; room = good.queued.room; seen = good.queued.seen };
      known = good.known;
      marks_in = λ k. elim (cases_eq k l) [
        | inl same ↦
            subst (λ i. get_or (set st.marks.items l (p + 1)) i 0 ≤ length (row g.rows i)) (sym same)
            (omega arith)
        | inr other ↦
            subst (λ n. n ≤ length (row g.rows k)) (sym (get_or-set_other st.marks.items l k (p + 1) 0 other))
            (good.marks_in k)
      ];
      covered =
          λ k j x. past_marked g.rows st.marks.items l p x (IsReached st.queue.items st.tail x) within
          (λ i. reached i x) (λ h i. good.covered h i x) k j;
      unfound = λ e k j. past_marked g.rows st.marks.items l p s ⊥ within (missed e) (good.unfound e) k j;
    }
