-- One more element in the queue.
use Rattle.std.proofs.Common.{◌≡◌, ◌≢◌, ℕ, ◌+◌, ◌<◌, ◌≤◌, Bool, true, false, not, cond, List, length, vec_len}
use Rattle.std.proofs.Common.{set, get_or, slice_index, slice_index_or, count_by, sym, ap, ◌∙◌, subst, arith}
use Rattle.std.proofs.Common.{get_or-set_same, get_or-set_other, inl, inr}
use Rattle.std.proofs.lemmas.List.Sums.{sum_by-set}
use Rattle.std.proofs.lemmas.Bool.{cases_eq, cases_lt}
use Rattle.std.specs.Vec.{with_item}
use Rattle.order_graph.specs.Lists.{row}
use Rattle.list_search.specs.Graph.{Graph}
use Rattle.list_search.specs.Progress.{Grows, IsGood, IsQueued, IsReached}
use Rattle.list_search.specs.declared.searching.state.State.{State}
use Rattle.list_search.proofs.Growth.{still_reached, still_unfound}

abbrev pub more : State → ℕ → State
more st y =
    record st { seen = with_item st.seen y true; queue = with_item st.queue st.tail y; tail = st.tail + 1 }

pub unseen_count : (xs : List Bool) (y : ℕ) → y < length xs → get_or xs y false ≡ false
    → count_by not (set xs y true) + 1 ≡ count_by not xs
unseen_count xs y within unseen =
    let whole : count_by not (set xs y true) + cond {A = ℕ} (not (get_or xs y false)) 1 0
    ≡ count_by not xs + 0 =
    sum_by-set (λ (b : Bool). cond {A = ℕ} (not b) 1 0) xs y true false within in
    let one : cond {A = ℕ} (not (get_or xs y false)) 1 0 ≡ 1 =
    ap (λ (b : Bool). cond {A = ℕ} (not b) 1 0) unseen in
    omega arith

pub tail_within : (y : ℕ) (st : State) → IsQueued st → y < length st.seen.items
    → slice_index_or st.seen.items y false ≡ false → st.tail < length st.queue.items
tail_within y st queued within unseen =
    let one = unseen_count st.seen.items y within unseen in
    let room = queued.room in
    omega arith

pub reached_more : (y : ℕ) (st : State) → st.tail < length st.queue.items → (x : ℕ)
    → IsReached st.queue.items st.tail x → IsReached (set st.queue.items st.tail y) (st.tail + 1) x
reached_more y st fits x old = record {
  at = old.at;
  early = let h = old.early in omega arith;
  here = let early = old.early in let other : old.at ≢ st.tail = omega arith in
      get_or-set_other st.queue.items st.tail old.at y 0 other ∙ old.here;
}

pub reached_last : (y : ℕ) (st : State) → st.tail < length st.queue.items
    → IsReached (set st.queue.items st.tail y) (st.tail + 1) y
reached_last y st fits = record {
  at = st.tail;
  early = omega arith;
  here = get_or-set_same st.queue.items st.tail y 0 fits;
}

pub queued_more : (y : ℕ) (st : State) → IsQueued st → y < length st.seen.items
    → slice_index_or st.seen.items y false ≡ false → IsQueued (more st y)
queued_more y st queued within unseen =
    let one = unseen_count st.seen.items y within unseen in
    let fits = tail_within y st queued within unseen in
    let lengths = queued.queue_len in
    let room = queued.room in
    record {
      queue_len = omega arith;
      room = omega arith;
      seen = λ x h. elim (cases_eq x y) [
        | inl same ↦
            subst (λ z. IsReached (set st.queue.items st.tail y) (st.tail + 1) z) (sym same)
            (reached_last y st fits)
        | inr other ↦
            reached_more y st fits x
            (queued.seen x (sym (get_or-set_other st.seen.items y x true false other) ∙ h))
      ];
    }

-- a search that reached more, all of it known, is as it should be
pub good_grown : (g : Graph) (s y : ℕ) (a b : State) → IsGood g s a → y < g.elements → IsQueued b
    → vec_len b.seen ≡ vec_len a.seen → b.marks ≡ a.marks
    → Grows (λ z. z ≡ y) s a b → IsGood g s b
good_grown g s y a b good known queued places marks grows =
    let fits = good.fits in
    let lengths = queued.queue_len in
    let back : (l j : ℕ) → slice_index b.marks.items l ≤ j → slice_index a.marks.items l ≤ j =
    λ l j h. subst (λ m. slice_index m.items l ≤ j) marks h in
    record {
      fits = record {
        marks_len = ap (λ m. vec_len m) marks ∙ fits.marks_len;
        seen_len = places ∙ fits.seen_len;
        queue_len = lengths ∙ places ∙ fits.seen_len;
      };
      queued = queued;
      known = λ k h. elim (cases_lt k a.tail) [
        | inl early ↦ subst (λ n. n < g.elements) (sym (grows.kept k early)) (good.known k early)
        | inr late ↦ subst (λ n. n < g.elements) (sym (grows.fresh k late h)) known
      ];
      marks_in =
          λ l. subst (λ m. slice_index m.items l ≤ length (row g.rows l)) (sym marks) (good.marks_in l);
      covered =
          λ l j x past stands. still_reached (λ z. z ≡ y) s x a b grows
          (good.covered l j x (back l j past) stands);
      unfound = λ e l j past. good.unfound (still_unfound (λ z. z ≡ y) s a b grows e) l j (back l j past);
    }
