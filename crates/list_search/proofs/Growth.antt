-- Parts of a search, one after another.
use Rattle.std.proofs.Common.{◌≡◌, ℕ, ◌≤◌, false, List, sym, ◌∙◌, subst, arith, inl, inr}
use Rattle.std.proofs.lemmas.Bool.{cases_lt, cases_Bool}
use Rattle.order_graph.specs.Lists.{ticked}
use Rattle.list_search.specs.Progress.{Grows, IsReached, IsExpanded, Works}
use Rattle.list_search.specs.declared.searching.state.State.{State}

pub grows_weaker : (P Q : ℕ → Type 0) (s : ℕ) (a b : State) → ((x : ℕ) → P x → Q x) → Grows P s a b
    → Grows Q s a b
grows_weaker P Q s a b to grows = record {
  tail = grows.tail;
  kept = grows.kept;
  fresh = λ k low high. to _ (grows.fresh k low high);
  found = λ h. elim (grows.found h) [ inl old ↦ inl old | inr new ↦ inr (to s new) ];
  stays = grows.stays;
  marks = grows.marks;
}

pub grows_both : (P : ℕ → Type 0) (s : ℕ) (a b c : State) → Grows P s a b → Grows P s b c → Grows P s a c
grows_both P s a b c first second = record {
  tail = let h = first.tail in let k = second.tail in omega arith;
  kept = λ k h. let low = first.tail in second.kept k (omega arith) ∙ first.kept k h;
  fresh = λ k low high. elim (cases_lt k b.tail) [
    | inl early ↦ subst P (sym (second.kept k early)) (first.fresh k low early)
    | inr late ↦ second.fresh k late high
  ];
  found = λ h. elim (second.found h) [ inl old ↦ first.found old | inr new ↦ inr new ];
  stays = λ h. second.stays (first.stays h);
  marks = λ l. let h = first.marks l in let k = second.marks l in omega arith;
}

-- what was reached stays so
pub still_reached : (P : ℕ → Type 0) (s x : ℕ) (a b : State) → Grows P s a b
    → IsReached a.queue.items a.tail x → IsReached b.queue.items b.tail x
still_reached P s x a b grows old = record {
  at = old.at;
  early = let h = old.early in let k = grows.tail in omega arith;
  here = grows.kept old.at old.early ∙ old.here;
}

pub works_both : (a b c : State) (i j k : ℕ) → Works a b i j → Works b c j k → Works a c i k
works_both a b c i j k first second =
    let low = first.forward in let high = second.forward in
    record {
      forward = omega arith;
      reach = λ h. elim (cases_lt a.tail b.tail) [
        | inl early ↦ let one = first.reach early in omega arith
        | inr late ↦ let one = second.reach (omega arith) in omega arith
      ];
      found = λ h t. elim (cases_Bool b.found) [
        | inl early ↦ let one = first.found h early in omega arith
        | inr late ↦ let one = second.found late t in omega arith
      ];
    }

-- what is not found was not found
pub still_unfound : (P : ℕ → Type 0) (s : ℕ) (a b : State) → Grows P s a b → b.found ≡ false → a.found ≡ false
still_unfound P s a b grows e = elim (cases_Bool a.found) [
  | inl was ↦ absurd (let now = grows.stays was in cc)
  | inr was ↦ was
]

-- a part that begins with a step, after one that may have none, or has one
pub works_next : (a b c : State) (i j k : ℕ) → Works a b i j → j ≤ k → Works b c (ticked j) k → Works a c i k
works_next a b c i j k first forward second =
    works_both a b c i j k first (record {
      forward = forward;
      reach = λ h. let one = second.reach h in omega arith;
      found = λ h t. let one = second.found h t in omega arith;
    })

pub works_step : (a b c : State) (i j k : ℕ) → Works a b i j → Works b c (ticked j) k → Works a c (ticked i) k
works_step a b c i j k first second =
    let low = first.forward in
    works_both a b c (ticked i) (ticked j) k (record {
      forward = omega arith;
      reach = λ h. let one = first.reach h in omega arith;
      found = λ h t. let one = first.found h t in omega arith;
    }) second

pub still_expanded : (P : ℕ → Type 0) (s : ℕ) (a b : State) (rows : List (List ℕ)) (x : ℕ) → Grows P s a b
    → IsExpanded rows a.marks.items x → IsExpanded rows b.marks.items x
still_expanded P s a b rows x grows old = λ l p stands. let h = old l p stands in let k = grows.marks l in
    omega arith
