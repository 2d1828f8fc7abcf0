-- A core has the cycles of the whole: what is shortest or least there is so here. And the elements through
-- which a cycle leads are a core.
use Rattle.std.proofs.Common.{◌≡◌, ◌≢◌, ℕ, ◌<◌, ◌⊎◌, inl, inr, Some, List, [], ◌∷◌}
use Rattle.std.proofs.Common.{length, map, get_or, refl, sym, ◌∙◌, ap, subst, arith}
use Rattle.std.specs.Prelude.{All, AllPairs, Contains, IsTrue, slice_get, nat_lt}
use Rattle.std.specs.Prelude.{◌==◌, ◌&&◌}
use Rattle.std.proofs.lemmas.Bool.{or_cases, or_left, or_right, and_parts, and_from, ltb-true, eqb-true}
use Rattle.std.proofs.lemmas.Bool.{lt-ltb, eq-eqb}
use Rattle.std.proofs.lemmas.List.{get_or-map, length-map}
use Rattle.std.proofs.lemmas.Option.{slice_get-get_or, slice_get_within, get_or_from_slice_get}
use Rattle.events.specs.Names.{NameBytes}
use Rattle.events.specs.Operation.{Operation, IsLeast}
use Rattle.specification.specs.Elements.{numbers_in}
use Rattle.specification.specs.Responses.{Responses, AreProper, Shows, StandsBefore}
use Rattle.specification.specs.Conflict.{AreLeastSteps, HasConflictNumber, HasNoConflict, IsCycle, Step, ring}
use Rattle.specification.specs.Conflict.{ring_from}
use Rattle.specification.specs.LayerRule.{narrowed}
use Rattle.specification.specs.Orders.{dictionary_lt}
use Rattle.specification.specs.Search.{IsCycleThrough, IsShortestLength}
use Rattle.specification.proofs.Members.{In, Before, In-from_Contains, Contains-from_In, In-from_place}
use Rattle.specification.proofs.Members.{In-map, All-member, All-from_members, Before-cases}
use Rattle.specification.proofs.Members.{Before-from_places, places_of_Before}
use Rattle.specification.proofs.OperationNames.{In_map-from}
use Rattle.specification.proofs.Numbers.{number, number-rises}
use Rattle.specification.proofs.Dictionary.{same_number}
use Rattle.specification.proofs.Shown.{ShowsIn-from_Shows, Shows-from_ShowsIn, elements-once}
use Rattle.specification.proofs.Cycles.{IsShownPair, cycle-elements}
use Rattle.specification.proofs.Narrowed.{narrowed-shows, narrowed_shows-from}
use Rattle.order_graph.specs.Kept.{names_at}
use Rattle.element_numbers.proofs.NameNumbers.{number-some}
use Rattle.level_search.specs.Conflicts.{IsFound}
use Rattle.level_search.specs.Cores.{IsCoreOf, LiesOnCycle}
use Rattle.level_search.specs.declared.conflict.Found.{Found}
use Rattle.level_search.specs.Team.{IsLeastLength}
use Rattle.list_search.proofs.Joining.{name}
use Rattle.level_search.proofs.Lengths.{none, some}

-- a pair of a ring has two of its elements
ring_from-members : (first last : NameBytes) (rest : List NameBytes) (p : NameBytes × NameBytes)
    → In p (ring_from first last rest)
    → In p.0 (last ∷ rest) × ((p.1 ≡ first) ⊎ In p.1 rest)
ring_from-members first last [] p (inl e) =
    (inl (ap (λ (q : NameBytes × NameBytes). q.0) e), inl (ap (λ (q : NameBytes × NameBytes). q.1) e))
ring_from-members first last [] p (inr i) = absurd i
ring_from-members first last (a ∷ rest) p (inl e) =
    (inl (ap (λ (q : NameBytes × NameBytes). q.0) e), inr (inl (ap (λ (q : NameBytes × NameBytes). q.1) e)))
ring_from-members first last (a ∷ rest) p (inr i) =
    let m = ring_from-members first a rest p i in
    (inr m.0, elim m.1 [ inl e ↦ inl e | inr j ↦ inr (inr j) ])

ring-members : (cycle : List NameBytes) (p : NameBytes × NameBytes) → In p (ring cycle)
    → In p.0 cycle × In p.1 cycle
ring-members [] p i = absurd i
ring-members (a ∷ rest) p i = let m = ring_from-members a a rest p i in (m.0, m.1)

module _ (v : Responses) (proper : AreProper v) (numbers : List ℕ) (core : IsCoreOf v numbers)
    (part_proper : AreProper (narrowed v (names_at v.elements numbers))) where
  abbrev among : List NameBytes
  among = names_at v.elements numbers

  abbrev part : Responses
  part = narrowed v among

  part-shows : (o : Operation) (a b : NameBytes) → In a among → In b among → Shows v o a b → Shows part o a b
  part-shows o a b i j shows =
      Shows-from_ShowsIn part o a b (narrowed-shows v among o a b i j (ShowsIn-from_Shows v o a b shows))

  part_shows-from : (o : Operation) (a b : NameBytes) → Shows part o a b
      → In a among × In b among × Shows v o a b
  part_shows-from o a b shows =
      let from = narrowed_shows-from v among o a b (ShowsIn-from_Shows part o a b shows) in
      (from.0, from.1, Shows-from_ShowsIn v o a b from.2)

  -- the cycles of the one are those of the other
  pub cycle_of_part : (cycle : List NameBytes) → IsCycle part cycle → IsCycle v cycle
  cycle_of_part cycle is = record {
    some = is.some;
    shown = All-from_members (IsShownPair v) (ring cycle) (λ p i.
        (let s : StandsBefore part p.0 p.1 = All-member (IsShownPair part) (ring cycle) p is.shown i in
        (s.0, (part_shows-from s.0 p.0 p.1 s.1).2)));
  }

  cycle-among : (cycle : List NameBytes) → IsCycle v cycle → (a : NameBytes) → In a cycle → In a among
  cycle-among cycle is a i =
      In-from_Contains among a (All-member (λ a. Contains among a) cycle a (core.whole cycle is) i)

  pub cycle_in_part : (cycle : List NameBytes) → IsCycle v cycle → IsCycle part cycle
  cycle_in_part cycle is = record {
    some = is.some;
    shown = All-from_members (IsShownPair part) (ring cycle) (λ p i.
        (let s : StandsBefore v p.0 p.1 = All-member (IsShownPair v) (ring cycle) p is.shown i in
        let two = ring-members cycle p i in
        (s.0, part-shows s.0 p.0 p.1 (cycle-among cycle is p.0 two.0) (cycle-among cycle is p.1 two.1) s.1)));
  }

  shortest_of_part : (k : ℕ) → IsShortestLength part k → IsShortestLength v k
  shortest_of_part k is =
      ((is.0.0, cycle_of_part is.0.0 is.0.1, is.0.2), λ cycle shown. is.1 cycle (cycle_in_part cycle shown))

  pub shortest_in_part : (k : ℕ) → IsShortestLength v k → IsShortestLength part k
  shortest_in_part k is =
      ((is.0.0, cycle_in_part is.0.0 is.0.1, is.0.2), λ cycle shown. is.1 cycle (cycle_of_part cycle shown))

  -- the least length found in the core is that of the whole
  pub least_of_part : (m : ℕ) → IsLeastLength part m → IsLeastLength v m
  least_of_part m (inl is) = inl (shortest_of_part m is)
  least_of_part m (inr none) = inr (none.0, λ cycle is. none.1 cycle (cycle_in_part cycle is))

  -- an element of the core is one of the whole, and the numbers of both go in one order
  among-number : (a : NameBytes) → In a among → (x : ℕ) × (x < length v.elements)
      × (slice_get v.elements x ≡ Some a)
  among-number a i =
      let t : (x : ℕ) × In x numbers × (a ≡ name v x) = In_map-from (name v) a numbers i in
      let known : t.0 < length v.elements =
      All-member (λ x. x < length v.elements) numbers t.0 core.known t.1 in
      (t.0, known, slice_get-get_or v.elements t.0 [] known ∙ ap Some (sym t.2))

  among-element : (a : NameBytes) → In a among → In a v.elements
  among-element a i = let at = among-number a i in In-from_place v.elements at.0 a at.2

  place-element : (i : ℕ) (a : NameBytes) → slice_get among i ≡ Some a → (i < length numbers)
      × (get_or numbers i 0 < length v.elements) × (slice_get v.elements (get_or numbers i 0) ≡ Some a)
  place-element i a at =
      let long : length among ≡ length numbers = length-map numbers (name v) in
      let inside : i < length among = slice_get_within among i a at in
      let within : i < length numbers = omega arith in
      let x : ℕ = get_or numbers i 0 in
      let known : x < length v.elements =
      All-member (λ x. x < length v.elements) numbers x core.known
      (In-from_place numbers i x (slice_get-get_or numbers i 0 within)) in
      let named : get_or among i [] ≡ name v x = get_or-map (name v) numbers i 0 [] within in (
        within,
        known,
        slice_get-get_or v.elements x [] known
            ∙ ap Some (sym named ∙ get_or_from_slice_get among i a [] at),
      )

  among-before : (a b : NameBytes) → Before a b among → Before a b v.elements
  among-before a b h =
      let p = places_of_Before among a b h in
      let one = place-element p.0 a p.3 in
      let two = place-element p.1 b p.4 in
      let lt : get_or numbers p.0 0 < get_or numbers p.1 0 = core.rising p.0 p.1 0 p.2 two.0 in
      Before-from_places v.elements a b (get_or numbers p.0 0) (get_or numbers p.1 0) lt one.2 two.2

  number-falls : (a b : NameBytes) → In a among → In b among → number v.elements a < number v.elements b
      → number among a < number among b
  number-falls a b i j lt = elim (Before-cases a b among i j) [
    | inl h ↦ number-rises among (elements-once part part_proper) a b h
    | inr (inl e) ↦
        absurd (let same : number v.elements a ≡ number v.elements b = ap (number v.elements) e in
        omega arith)
    | inr (inr h) ↦
        absurd (let back : number v.elements b < number v.elements a =
        number-rises v.elements (elements-once v proper) b a (among-before b a h) in omega arith)
  ]

  -- dictionary order stays
  dictionary-part : (xs ys : List NameBytes) → ((z : NameBytes) → In z xs → In z among)
      → ((z : NameBytes) → In z ys → In z among)
      → IsTrue (dictionary_lt (numbers_in v.elements xs) (numbers_in v.elements ys))
      → IsTrue (dictionary_lt (numbers_in among xs) (numbers_in among ys))
  dictionary-part [] [] p q lt = lt
  dictionary-part [] (y ∷ ys) p q lt = lt
  dictionary-part (x ∷ xs) [] p q lt = lt
  dictionary-part (x ∷ xs) (y ∷ ys) p q lt =
      go (dictionary-part xs ys (λ z i. p z (inr i)) (λ z i. q z (inr i)))
      (or_cases (nat_lt old_x old_y)
      ((old_x == old_y) && dictionary_lt (numbers_in v.elements xs) (numbers_in v.elements ys)) lt)
    where
      old_x : ℕ
      old_x = number v.elements x

      old_y : ℕ
      old_y = number v.elements y

      new_x : ℕ
      new_x = number among x

      new_y : ℕ
      new_y = number among y

      go : (IsTrue (dictionary_lt (numbers_in v.elements xs) (numbers_in v.elements ys))
          → IsTrue (dictionary_lt (numbers_in among xs) (numbers_in among ys)))
          → IsTrue (nat_lt old_x old_y)
          ⊎ IsTrue
          ((old_x == old_y) && dictionary_lt (numbers_in v.elements xs) (numbers_in v.elements ys))
          → IsTrue (dictionary_lt (numbers_in among (x ∷ xs)) (numbers_in among (y ∷ ys)))
      go further (inl less) =
          or_left (nat_lt new_x new_y)
          ((new_x == new_y) && dictionary_lt (numbers_in among xs) (numbers_in among ys))
          (lt-ltb new_x new_y
          (number-falls x y (p x (inl refl)) (q y (inl refl)) (ltb-true old_x old_y less)))
      go further (inr same) =
          let parts =
          and_parts (old_x == old_y) (dictionary_lt (numbers_in v.elements xs) (numbers_in v.elements ys))
          same in
          let one : x ≡ y =
          same_number v.elements (elements-once v proper) x y (among-element x (p x (inl refl)))
          (among-element y (q y (inl refl))) (eqb-true old_x old_y parts.0) in
          or_right (nat_lt new_x new_y)
          ((new_x == new_y) && dictionary_lt (numbers_in among xs) (numbers_in among ys))
          (and_from (new_x == new_y) (dictionary_lt (numbers_in among xs) (numbers_in among ys))
          (eq-eqb new_x new_y (ap (number among) one)) (further parts.1))

  -- the least steps in the core are those of the whole
  pub steps_of_part : (steps : List Step) → AreLeastSteps part steps → AreLeastSteps v steps
  steps_of_part steps is =
      let cycle : List NameBytes = map (λ (s : Step). s.from) steps in
      let round : IsCycle v cycle = cycle_of_part cycle is.cycle.is_cycle in
      record {
        joined = is.joined;
        cycle = record {
          is_cycle = round;
          shortest = λ other shown. is.cycle.shortest other (cycle_in_part other shown);
          first = λ other shown same before.
              is.cycle.first other (cycle_in_part other shown) same
              (dictionary-part other cycle (cycle-among other shown) (cycle-among cycle round) before);
        };
        operations =
            All-from_members (λ (s : Step). IsLeast (λ o. Shows v o s.from s.to) s.shown) steps (λ s i.
            (let least : IsLeast (λ o. Shows part o s.from s.to) s.shown =
            All-member (λ (s : Step). IsLeast (λ o. Shows part o s.from s.to) s.shown) steps s
            is.operations i in
            let from = part_shows-from s.shown s.from s.to least.holds in
            record {
              holds = from.2;
              least = λ o shows. least.least o (part-shows o s.from s.to from.0 from.1 shows);
            }));
      }

-- the elements through which a cycle leads are a core
pub core_of : (v : Responses) → AreProper v → (numbers : List ℕ) → AllPairs (λ x y. x < y) numbers
    → All (λ x. x < length v.elements) numbers → All (LiesOnCycle v) numbers
    → ((x : ℕ) → LiesOnCycle v x → Contains numbers x) → IsCoreOf v numbers
core_of v proper numbers rising known lie all = record {
  rising = rising;
  known = known;
  on_cycles = lie;
  whole = λ cycle is. All-from_members (λ a. Contains (names_at v.elements numbers) a) cycle (λ a i.
      (let numbered =
      number-some v.elements a (elements-once v proper) (cycle-elements v proper cycle is a i) in
      let through : IsCycleThrough v numbered.0 cycle =
      record { is_cycle = is; name = a; number = numbered.1; through = Contains-from_In cycle a i } in
      let here : Contains numbers numbered.0 = all numbered.0 (cycle, through) in
      let named : name v numbered.0 ≡ a = get_or_from_slice_get v.elements numbered.0 a [] numbered.1 in
      Contains-from_In (names_at v.elements numbers) a (subst (λ z. In z (names_at v.elements numbers)) named
      (In-map (name v) numbered.0 numbers (In-from_Contains numbers numbered.0 here)))));
}

-- the same where the part is told apart from its definition
module _ (v : Responses) (proper : AreProper v) (numbers : List ℕ) (core : IsCoreOf v numbers) (w : Responses)
    (is : w ≡ narrowed v (names_at v.elements numbers)) (part_proper : AreProper w) where
  left-proper : AreProper (narrowed v (names_at v.elements numbers))
  left-proper = subst AreProper is part_proper

  pub least_of_core : (m : ℕ) → IsLeastLength w m → IsLeastLength v m
  least_of_core m least =
      least_of_part v proper numbers core left-proper m (subst (λ u. IsLeastLength u m) is least)

  pub shortest_in_core : (k : ℕ) → IsShortestLength v k → IsShortestLength w k
  shortest_in_core k shortest =
      subst (λ u. IsShortestLength u k) (sym is)
      (shortest_in_part v proper numbers core left-proper k shortest)

  pub steps_of_core : (steps : List Step) → AreLeastSteps w steps → AreLeastSteps v steps
  steps_of_core steps least =
      steps_of_part v proper numbers core left-proper steps (subst (λ u. AreLeastSteps u steps) is least)

-- what was searched tells the whole
whole-least : (v : Responses) (s : Found) → IsFound v s → IsLeastLength v s.least
whole-least v s is =
    least_of_core v is.proper s.core.elements.items is.core s.core.graph is.part is.part_proper s.least
    is.least

pub no_conflict : (v : Responses) (s : Found) → IsFound v s → s.least ≡ 4294967295 → HasNoConflict v
no_conflict v s is = none v is.proper s.least (whole-least v s is)

pub some_conflict : (v : Responses) (s : Found) → IsFound v s → s.least ≢ 4294967295
    → HasConflictNumber v s.least
some_conflict v s is = some v is.proper s.least (whole-least v s is)

pub least_steps : (v : Responses) (s : Found) → IsFound v s → (steps : List Step)
    → AreLeastSteps s.core.graph steps → AreLeastSteps v steps
least_steps v s is =
    steps_of_core v is.proper s.core.elements.items is.core s.core.graph is.part is.part_proper
