-- Responses that cover others have the same orders and cycles, and the same least operations that show one
-- element before another.
use Rattle.std.proofs.Common.{◌≡◌, ℕ, ◌⊎◌, inl, inr, List, map, refl, sym, ◌∙◌, ap, subst, arith}
use Rattle.std.specs.Prelude.{IsTrue, IsPermutation}
use Rattle.std.proofs.lemmas.List.Elements.{All-weaker}
use Rattle.events.specs.Names.{NameBytes}
use Rattle.events.specs.Operation.{Operation, ComesBefore, IsLeast}
use Rattle.events.specs.History.{History}
use Rattle.events.specs.Operations.{operation_names, response}
use Rattle.specification.specs.Responses.{Responses, Returned, responses_of, AreProper, Shows, StandsBefore}
use Rattle.specification.specs.Elements.{numbers_in}
use Rattle.specification.specs.Orders.{IsSubsequence, IsFollowingOrder, dictionary_lt, ComesFirst}
use Rattle.specification.specs.Orders.{IsLeastOrder}
use Rattle.specification.specs.Conflict.{HasConflictNumber, IsCycle, IsLeastCycle, Step, AreLeastSteps, ring}
use Rattle.specification.specs.Search.{IsShortestLength}
use Rattle.specification.proofs.Members.{In, Before-from_places, places_of_Before, In-from_Contains}
use Rattle.specification.proofs.Members.{Contains-from_In, In-map, All-member, All-from_members}
use Rattle.specification.proofs.OperationNames.{In_map-from}
use Rattle.specification.proofs.Dictionary.{IsBefore, IsBefore-from, ComesBefore-from}
use Rattle.specification.proofs.Subsequences.{Before-subsequence, subsequence-refl, subsequence-trans}
use Rattle.specification.proofs.ConflictNumber.{conflict_number_is_shortest_cycle}
use Rattle.element_numbers.specs.Covering.{AreCovering}
use Rattle.order_graph.specs.Covers.{IsCoveredBy, responses_on}
use Rattle.element_numbers.proofs.Parts.{In-part}

-- responses cover themselves
pub covered-by-same : (v w : Responses) → w ≡ v → IsCoveredBy v w
covered-by-same v w same =
    subst (λ (u : Responses). IsCoveredBy v u) (sym same) (record {
      elements = refl;
      kept = λ r i. i;
      covered = λ r i. (r, i, inl refl, subsequence-refl r.names);
    })

abbrev pub returned_by : History → Operation → Returned
returned_by h o = record { by = o; names = response h o }

-- the responses of operations that cover all cover the responses of all
pub covers-all : (h : History) (some : List Operation) → AreCovering h (operation_names h) some
    → IsCoveredBy (responses_of h) (responses_on h some)
covers-all h some c = record {
  elements = refl;
  kept = λ r i.
      let s : (o : Operation) × In o some × (r ≡ returned_by h o) =
      In_map-from (returned_by h) r some (In-from_Contains (map (returned_by h) some) r i) in
      Contains-from_In (map (returned_by h) (operation_names h)) r
      (subst (λ (q : Returned). In q (map (returned_by h) (operation_names h))) (sym s.2)
      (In-map (returned_by h) s.0 (operation_names h) (In-part s.0 some (operation_names h) c.part s.1)));
  covered = λ r i.
      let s : (o : Operation) × In o (operation_names h) × (r ≡ returned_by h o) =
      In_map-from (returned_by h) r (operation_names h)
      (In-from_Contains (map (returned_by h) (operation_names h)) r i) in
      let k = c.covered s.0 (Contains-from_In (operation_names h) s.0 s.1) in
      let by : r.by ≡ s.0 = ap (λ (q : Returned). q.by) s.2 in
      let names : r.names ≡ response h s.0 = ap (λ (q : Returned). q.names) s.2 in (
        returned_by h k.0,
        Contains-from_In (map (returned_by h) some) (returned_by h k.0)
            (In-map (returned_by h) k.0 some (In-from_Contains some k.0 k.1)),
        subst (λ o. (k.0 ≡ o) ⊎ ComesBefore k.0 o) (sym by) k.2,
        subst (λ l. IsSubsequence l (response h k.0)) (sym names) k.3,
      );
}

pub ComesBefore-trans : (f e g : Operation) → ComesBefore f e → ComesBefore e g → ComesBefore f g
ComesBefore-trans f e g h k = go (IsBefore-from f e h) (IsBefore-from e g k)
  where
    go : IsBefore f e → IsBefore e g → ComesBefore f g
    go (inl a) (inl b) = ComesBefore-from f g (inl (omega arith))
    go (inl a) (inr b) = ComesBefore-from f g (inl (omega (arith, b.0)))
    go (inr a) (inl b) = ComesBefore-from f g (inl (omega (arith, a.0)))
    go (inr a) (inr b) = ComesBefore-from f g (inr (a.0 ∙ b.0, omega (arith, a.1, b.1)))

module _ (v w : Responses) (c : IsCoveredBy v w) where
  -- what is shown
  shows-more : (o : Operation) (a b : NameBytes) → Shows w o a b → Shows v o a b
  shows-more o a b s = (s.0, c.kept s.0 s.1, s.2, s.3)

  shows-first : (o : Operation) (a b : NameBytes) → Shows v o a b
      → (p : Operation) × ((p ≡ o) ⊎ ComesBefore p o) × Shows w p a b
  shows-first o a b s =
      let r : Returned = s.0 in
      let k = c.covered r s.1 in
      let places = s.3 in (
        k.0.by,
        subst (λ q. (k.0.by ≡ q) ⊎ ComesBefore k.0.by q) s.2 k.2,
        (
          k.0,
          k.1,
          refl,
          places_of_Before k.0.names a b
              (Before-subsequence a b r.names k.0.names k.3
              (Before-from_places r.names a b places.0 places.1 places.2 places.3 places.4)),
        ),
      )

  pub stands-more : (a b : NameBytes) → StandsBefore w a b → StandsBefore v a b
  stands-more a b s = (s.0, shows-more s.0 a b s.1)

  pub stands-fewer : (a b : NameBytes) → StandsBefore v a b → StandsBefore w a b
  stands-fewer a b s = let k : (p : Operation) × ((p ≡ s.0) ⊎ ComesBefore p s.0) × Shows w p a b =
      shows-first s.0 a b s.1 in (k.0, k.2)

  least-more : (o : Operation) (a b : NameBytes) → IsLeast (λ p. Shows w p a b) o
      → IsLeast (λ p. Shows v p a b) o
  least-more o a b is = record {
    holds = shows-more o a b is.holds;
    least = λ f shows before.
        let s : (p : Operation) × ((p ≡ f) ⊎ ComesBefore p f) × Shows w p a b = shows-first f a b shows in
        is.least s.0 s.2 (elim s.1 [
          | inl e ↦ subst (λ q. ComesBefore q o) (sym e) before
          | inr lt ↦
              ComesBefore-trans s.0 f o lt before
        ]);
  }

  -- orders
  comes_first : (xs ys : List NameBytes) → ComesFirst v xs ys → ComesFirst w xs ys
  comes_first xs ys =
      subst (λ es. IsTrue (dictionary_lt (numbers_in es xs) (numbers_in es ys))) (sym c.elements)

  follows-more : (order : List NameBytes) → IsFollowingOrder w order → IsFollowingOrder v order
  follows-more order f = (
    subst (λ es. IsPermutation es order) c.elements f.0,
    All-from_members (λ (r : Returned). IsSubsequence r.names order) v.returned (λ r i.
        let k = c.covered r (Contains-from_In v.returned r i) in
        subsequence-trans r.names k.0.names order k.3
        (All-member (λ (s : Returned). IsSubsequence s.names order) w.returned k.0 f.1
        (In-from_Contains w.returned k.0 k.1))),
  )

  follows-fewer : (order : List NameBytes) → IsFollowingOrder v order → IsFollowingOrder w order
  follows-fewer order f = (
    subst (λ es. IsPermutation es order) (sym c.elements) f.0,
    All-from_members (λ (r : Returned). IsSubsequence r.names order) w.returned (λ r i.
        All-member (λ (s : Returned). IsSubsequence s.names order) v.returned r f.1
        (In-from_Contains v.returned r (c.kept r (Contains-from_In w.returned r i)))),
  )

  pub covered-least_order : (order : List NameBytes) → IsLeastOrder w order → IsLeastOrder v order
  covered-least_order order is = record {
    follows = follows-more order is.follows;
    least = λ other f first. is.least other (follows-fewer other f) (comes_first other order first);
  }

  -- cycles
  cycle-more : (cycle : List NameBytes) → IsCycle w cycle → IsCycle v cycle
  cycle-more cycle is = record {
    some = is.some;
    shown = All-weaker (λ (p : NameBytes × NameBytes). StandsBefore w p.0 p.1)
        (λ (p : NameBytes × NameBytes). StandsBefore v p.0 p.1)
        (λ p. stands-more p.0 p.1) (ring cycle) is.shown;
  }

  cycle-fewer : (cycle : List NameBytes) → IsCycle v cycle → IsCycle w cycle
  cycle-fewer cycle is = record {
    some = is.some;
    shown = All-weaker (λ (p : NameBytes × NameBytes). StandsBefore v p.0 p.1)
        (λ (p : NameBytes × NameBytes). StandsBefore w p.0 p.1)
        (λ p. stands-fewer p.0 p.1) (ring cycle) is.shown;
  }

  shortest-more : (k : ℕ) → IsShortestLength w k → IsShortestLength v k
  shortest-more k s = ((s.0.0, cycle-more s.0.0 s.0.1, s.0.2), λ cycle is. s.1 cycle (cycle-fewer cycle is))

  least_cycle-more : (cycle : List NameBytes) → IsLeastCycle w cycle → IsLeastCycle v cycle
  least_cycle-more cycle is = record {
    is_cycle = cycle-more cycle is.is_cycle;
    shortest = λ other k. is.shortest other (cycle-fewer other k);
    first = λ other k e f. is.first other (cycle-fewer other k) e (comes_first other cycle f);
  }

  pub covered-least_steps : (steps : List Step) → AreLeastSteps w steps → AreLeastSteps v steps
  covered-least_steps steps are = record {
    joined = are.joined;
    cycle = least_cycle-more (map (λ s. s.from) steps) are.cycle;
    operations =
        All-weaker (λ (s : Step). IsLeast (λ o. Shows w o s.from s.to) s.shown)
        (λ (s : Step). IsLeast (λ o. Shows v o s.from s.to) s.shown)
        (λ s is. least-more s.shown s.from s.to is) steps are.operations;
  }

  pub covered-number : AreProper v → AreProper w → (k : ℕ) → HasConflictNumber w k → HasConflictNumber v k
  covered-number whole part k number =
      ((conflict_number_is_shortest_cycle v whole).0 k).1
      (shortest-more k (((conflict_number_is_shortest_cycle w part).0 k).0 number))
