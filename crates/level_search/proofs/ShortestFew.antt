-- A shortest cycle repeats no element, since a closed walk that comes twice to an element has a shorter one.
-- So it is no longer than there are elements, and its length is below every number that stands for no bound.
use Rattle.std.proofs.Common.{◌≡◌, ℕ, suc, ◌+◌, ◌<◌, ◌≤◌, ◌⊎◌, inl, inr, List, [], ◌∷◌, ◌++◌, map, length}
use Rattle.std.proofs.Common.{refl, sym, arith, ap, subst, length-append}
use Rattle.events.specs.Names.{NameBytes}
use Rattle.events.specs.Operation.{Operation}
use Rattle.specification.specs.Responses.{Responses, AreProper}
use Rattle.specification.specs.Search.{IsCycleLength, IsShortestLength}
use Rattle.specification.proofs.Members.{In, Once, Once-bounded, Before-second}
use Rattle.specification.proofs.Walks.{Walk, Closed, Repeat, once_or_repeat, Walk-split, Walk-append}
use Rattle.specification.proofs.Shown.{same_name, ShowsIn, names-elements}
use Rattle.specification.proofs.Cycles.{closed_from_cycle, cycle_from_closed}

module _ {X L : Type 0} (S : L → X → X → Type 0) where
  -- a closed walk that comes twice to an element has a shorter one
  cut_element : (c : Closed S) → Repeat (λ (s : L × X). s.1) c.steps
      → (k : Closed S) × (length k.steps < length c.steps)
  cut_element c r =
      let one : (m : X) × (Walk S c.from r.before m)
      × (Walk S m (r.one ∷ (r.between ++ r.other ∷ r.after)) c.from) =
      Walk-split S c.from c.from r.before (r.one ∷ (r.between ++ r.other ∷ r.after))
      (subst (λ ss. Walk S c.from ss c.from) r.is c.walk) in
      let two : (m : X) × (Walk S r.one.1 r.between m) × (Walk S m (r.other ∷ r.after) c.from) =
      Walk-split S r.one.1 c.from r.between (r.other ∷ r.after) one.2.1 in (
        record {
          from = r.one.1;
          steps = r.between ++ r.other ∷ [];
          walk = Walk-append S r.one.1 two.0 r.one.1 r.between (r.other ∷ []) two.1 (two.2.0, sym r.same);
          some = omega (arith, length-append {A = L × X});
        },
        omega (arith, ap length r.is, length-append {A = L × X}),
      )

module _ (v : Responses) (proper : AreProper v) where
  ends-elements : (a b : NameBytes) (ss : List (Operation × NameBytes)) → Walk (ShowsIn v) a ss b
      → (z : NameBytes) → In z (map (λ (s : Operation × NameBytes). s.1) ss) → In z v.elements
  ends-elements a b [] w z i = absurd i
  ends-elements a b (s ∷ ss) w z (inl e) =
      subst (λ y. In y v.elements) (sym e)
      (names-elements v proper w.0.0 w.0.1 s.1 (Before-second a s.1 w.0.0.names w.0.3))
  ends-elements a b (s ∷ ss) w z (inr i) = ends-elements s.1 b ss w.1 z i

  length-ends : (ss : List (Operation × NameBytes)) → length (map (λ (s : Operation × NameBytes). s.1) ss)
      ≡ length ss
  length-ends [] = refl
  length-ends (s ∷ ss) = ap suc (length-ends ss)

  -- a shortest cycle is no longer than there are elements
  pub shortest-few : (k : ℕ) → IsShortestLength v k → k ≤ length v.elements
  shortest-few k shortest = go (once_or_repeat same_name (λ (s : Operation × NameBytes). s.1) c.0.steps)
    where
      c : (c : Closed (ShowsIn v)) × (length c.steps ≡ length shortest.0.0)
      c = closed_from_cycle v shortest.0.0 shortest.0.1

      go : Once (map (λ (s : Operation × NameBytes). s.1) c.0.steps)
          ⊎ Repeat (λ (s : Operation × NameBytes). s.1) c.0.steps → k ≤ length v.elements
      go (inl o) =
          let le : length (map (λ (s : Operation × NameBytes). s.1) c.0.steps) ≤ length v.elements =
          Once-bounded (map (λ (s : Operation × NameBytes). s.1) c.0.steps) v.elements o
          (ends-elements c.0.from c.0.from c.0.steps c.0.walk) in
          omega (arith, le, length-ends c.0.steps, c.1, shortest.0.2)
      go (inr r) =
          let d : (d : Closed (ShowsIn v)) × (length d.steps < length c.0.steps) =
          cut_element (ShowsIn v) c.0 r in
          let e : IsCycleLength v (length d.0.steps) = cycle_from_closed v d.0 in
          let le : k ≤ length e.0 = shortest.1 e.0 e.1 in
          absurd (omega (arith, d.1, e.2, c.1, shortest.0.2))

  pub shortest-fits : (k : ℕ) → IsShortestLength v k → k + 1 < 4294967295
  shortest-fits k shortest = omega (arith, shortest-few k shortest, proper.few)
