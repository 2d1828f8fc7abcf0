-- Steps from each element of a ring to the one after it: those of the least ring are the least steps.
use Rattle.std.proofs.Common.{◌≡◌, ℕ, zero, suc, ◌<◌, Some, None, List, [], ◌∷◌, ◌++◌, length, map, get_or}
use Rattle.std.proofs.Common.{refl, sym, ◌∙◌, ap, subst, arith, inl, inr}
use Rattle.std.specs.Prelude.{All, slice_get}
use Rattle.std.proofs.lemmas.List.Elements.{All-nil, All-cons}
use Rattle.std.proofs.lemmas.Option.{get_or_from_slice_get, none-some}
use Rattle.events.specs.Operation.{IsLeast}
use Rattle.events.proofs.Places.{push-slice_get}
use Rattle.specification.specs.Responses.{Responses, AreProper, IsLeastShowing, Shows}
use Rattle.specification.specs.Conflict.{AreLeastSteps, IsLeastCycle, Step, ring, ring_from}
use Rattle.specification.specs.Search.{IsShortestLength}
use Rattle.order_graph.specs.Kept.{names_at}
use Rattle.order_graph.specs.Lists.{lists_of}
use Rattle.list_search.specs.Graph.{Before}
use Rattle.list_search.specs.Rings.{IsFirstRing, IsRing, Leads}
use Rattle.level_search.specs.Steps.{AreStepsOf, IsStepBetween, next_in}
use Rattle.list_search.proofs.Joining.{name, before-shown, names-shown, numbers-shown, least_cycle_of_ring}

-- each element of a ring stands before the one after it
leads-next : (rows : List (List ℕ)) (a : ℕ) (path : List ℕ) (z j : ℕ) → Leads rows a path z
    → j < suc (length path)
    → Before rows (get_or (a ∷ path) j 0) (get_or (path ++ z ∷ []) j 0)
leads-next rows a [] z zero leads inside = leads
leads-next rows a [] z (suc j) leads inside = absurd (omega arith)
leads-next rows a (b ∷ rest) z zero leads inside = leads.0
leads-next rows a (b ∷ rest) z (suc j) leads inside = leads-next rows b rest z j leads.1 (omega arith)

pub ring-next : (rows : List (List ℕ)) (numbers : List ℕ) (j : ℕ) → IsRing rows numbers → j < length numbers
    → Before rows (get_or numbers j 0) (next_in numbers j)
ring-next rows [] j ring inside = absurd ring
ring-next rows (a ∷ path) j ring inside = leads-next rows a path a j ring inside

-- one step more
pub steps-push : (v : Responses) (numbers : List ℕ) (steps : List Step) (step : Step)
    → AreStepsOf v numbers steps
    → IsStepBetween v (get_or numbers (length steps) 0) (next_in numbers (length steps)) step
    → AreStepsOf v numbers (steps ++ step ∷ [])
steps-push v numbers steps step old new j other at = elim (push-slice_get steps step other j at) [
  | inl before ↦ old j other before
  | inr last ↦
      let here : IsStepBetween v (get_or numbers (length steps) 0) (next_in numbers (length steps)) other =
      subst (λ (s : Step). IsStepBetween v (get_or numbers (length steps) 0)
      (next_in numbers (length steps)) s) (sym last.1) new in
      subst (λ i. IsStepBetween v (get_or numbers i 0) (next_in numbers i) other) (sym last.0) here
]

-- what stands between two elements, and none of it is wanting
pub no_name : (v : Responses) → AreProper v → (a b : ℕ) → Before (lists_of v) a b
    → (slice_get v.elements a ≡ None → ⊥) × (slice_get v.elements b ≡ None → ⊥)
no_name v proper a b before =
    let shown = before-shown v proper a b before in (
      λ none. absurd (none-some shown.1.0 (sym none ∙ shown.1.2)),
      λ none. absurd (none-some shown.1.1 (sym none ∙ shown.1.3)),
    )

pub step_is_between : (v : Responses) → AreProper v → (a b : ℕ) (step : Step)
    → slice_get v.elements a ≡ Some step.from → slice_get v.elements b ≡ Some step.to
    → IsLeastShowing v a b (Some step.shown) → IsStepBetween v a b step
step_is_between v proper a b step first second least = record {
  from = first;
  to = second;
  shown = record {
    holds = names-shown v proper a b step.from step.to first second step.shown least.holds;
    least = λ o shows. least.least o (numbers-shown v proper a b step.from step.to first second o shows);
  };
}

-- what steps along a path from a to z say of their list
pub record AreStepsAlong (v : Responses) (a : ℕ) (path : List ℕ) (z : ℕ) (steps : List Step) : Type 0 where
  pub pairs : map (λ (s : Step). (s.from, s.to)) steps ≡ ring_from (name v z) (name v a)
      (names_at v.elements path)
  pub firsts : map (λ (s : Step). s.from) steps ≡ name v a ∷ names_at v.elements path
  pub shown : All (λ (s : Step). IsLeast (λ o. Shows v o s.from s.to) s.shown) steps

abbrev IsShown : Responses → Step → Type 0
IsShown v s = IsLeast (λ o. Shows v o s.from s.to) s.shown

steps-along : (v : Responses) (a : ℕ) (path : List ℕ) (z : ℕ) (steps : List Step)
    → length steps ≡ suc (length path)
    → ((j : ℕ) (step : Step) → slice_get steps j ≡ Some step
    → IsStepBetween v (get_or (a ∷ path) j 0) (get_or (path ++ z ∷ []) j 0) step)
    → AreStepsAlong v a path z steps
steps-along v a path z [] count each = absurd (omega arith)
steps-along v a [] z (s ∷ t ∷ more) count each = absurd (omega arith)
steps-along v a [] z (s ∷ []) count each =
    let one : IsStepBetween v a z s = each 0 s refl in
    let from : s.from ≡ name v a = sym (get_or_from_slice_get v.elements a s.from [] one.from) in
    let to : s.to ≡ name v z = sym (get_or_from_slice_get v.elements z s.to [] one.to) in
    record {
      pairs = λ i. (from i, to i) ∷ [];
      firsts = ap (λ n. n ∷ []) from;
      shown = All-cons (IsShown v) s [] one.shown (All-nil (IsShown v));
    }
steps-along v a (b ∷ rest) z (s ∷ more) count each =
    let one : IsStepBetween v a b s = each 0 s refl in
    let from : s.from ≡ name v a = sym (get_or_from_slice_get v.elements a s.from [] one.from) in
    let to : s.to ≡ name v b = sym (get_or_from_slice_get v.elements b s.to [] one.to) in
    let further = steps-along v b rest z more (omega arith) (λ j step at. each (suc j) step at) in
    record {
      pairs = λ i. (from i, to i) ∷ further.pairs i;
      firsts = λ i. from i ∷ further.firsts i;
      shown = All-cons (IsShown v) s more one.shown further.shown;
    }

-- the steps of the least ring
pub least_steps_of_ring : (v : Responses) → AreProper v → (k : ℕ) (numbers : List ℕ) (steps : List Step)
    → IsShortestLength v k
    → IsFirstRing (lists_of v) k numbers → length steps ≡ length numbers → AreStepsOf v numbers steps
    → AreLeastSteps v steps
least_steps_of_ring v proper k [] steps shortest is count each = absurd is.is_ring
least_steps_of_ring v proper k (a ∷ path) steps shortest is count each =
    let along = steps-along v a path a steps count each in
    record {
      joined = along.pairs ∙ ap ring (sym along.firsts);
      cycle = subst (λ c. IsLeastCycle v c) (sym along.firsts)
          (least_cycle_of_ring v proper k (a ∷ path) shortest is);
      operations = along.shown;
    }
