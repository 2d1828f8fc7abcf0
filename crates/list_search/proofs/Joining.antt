-- Numbers and names: what stands before what, cycles and their lengths are the same told by numbers and by
-- names.
use Rattle.std.proofs.Common.{◌≡◌, ℕ, zero, suc, ◌<◌, ◌≤◌, ◌⊎◌, inl, inr, Option, Some, None, List, [], ◌∷◌}
use Rattle.std.proofs.Common.{length, get_or, refl, sym, ◌∙◌, ap, subst, arith}
use Rattle.std.specs.Prelude.{true, is_some, ◌+◌, All, IsTrue, slice_get, unwrap_or, nat_lt, ◌==◌, ◌&&◌}
use Rattle.std.specs.Prelude.{false}
use Rattle.std.proofs.lemmas.Bool.{true≢false, cases_order, or_cases, and_parts, ltb-true, eqb-true}
use Rattle.std.proofs.lemmas.List.{get_or-map, length-map}
use Rattle.std.proofs.lemmas.List.Elements.{All-nil, All-cons, All-head, All-tail}
use Rattle.std.proofs.lemmas.Option.{slice_get-get_or, slice_get_within, get_or_from_slice_get, same_Some}
use Rattle.events.specs.Names.{NameBytes}
use Rattle.events.specs.Operation.{Operation, ComesBefore}
use Rattle.specification.specs.Elements.{numbers_in}
use Rattle.specification.specs.Responses.{Responses, Returned, AreProper, Shows, ShowsNumbers, StandsBefore}
use Rattle.specification.specs.Conflict.{HasConflictNumber, HasNoConflict, IsCycle, IsLeastCycle, ring}
use Rattle.specification.specs.Conflict.{ring_from}
use Rattle.specification.specs.Orders.{dictionary_lt}
use Rattle.specification.specs.Search.{IsCycleThrough, IsShortestThrough, IsShortestLength, HasNoCycle}
use Rattle.specification.specs.Search as named
use Rattle.specification.proofs.Members.{In-from_Contains, Contains-from_In, place_of_In, Before-first}
use Rattle.specification.proofs.Members.{Before-second, Before-from_places, AllPairs-Before}
use Rattle.specification.proofs.Numbers.{number}
use Rattle.specification.proofs.Shown.{ShowsIn, ShowsIn-from_Shows, elements-once, names-elements}
use Rattle.specification.proofs.Shown.{ComesBefore-irreflexive}
use Rattle.specification.proofs.Cycles.{IsShownPair}
use Rattle.specification.proofs.ConflictNumber.{conflict_number_is_shortest_cycle}
use Rattle.order_graph.specs.Kept.{names_at}
use Rattle.order_graph.specs.Lists.{lists_of, BeforeIn}
use Rattle.element_numbers.proofs.NameNumbers.{number-at, number-some}
use Rattle.order_graph.proofs.Shown.{list-shows, shows-list, named-stands}
use Rattle.list_search.specs.Graph.{Before}
use Rattle.list_search.specs.Rings.{IsFirstRing, IsNotAfter, IsRing, Leads}
use Rattle.list_search.specs.Walks.{HasCycle, IsSearchAnswer}
use Rattle.list_search.proofs.RingWalks.{cycle_ring, ring_through}

-- by numbers: some cycle has length k, and none is shorter
pub record IsShortestOfAll (v : Responses) (k : ℕ) : Type 0 where
  pub source : ℕ
  pub known : source < length v.elements
  pub cycle : HasCycle (lists_of v) source k
  pub shortest : (s n : ℕ) → s < length v.elements → HasCycle (lists_of v) s n → k ≤ n

-- the name with this number
abbrev pub name : Responses → ℕ → NameBytes
name v x = get_or v.elements x []

module _ (v : Responses) (proper : AreProper v) where
  -- what an operation shows by numbers stands so in its list
  pub shown-before : (o : Operation) (a b : ℕ) → ShowsNumbers v o a b → Before (lists_of v) a b
  shown-before o a b shows =
      let s = list-shows v proper o a b shows in
      let is = s.4 in
      record {
        list = s.0;
        place = is.place;
        later = is.later;
        in_order = is.in_order;
        first = is.first;
        second = is.second;
      }

  pub before-shown : (a b : ℕ) → Before (lists_of v) a b → (o : Operation) × ShowsNumbers v o a b
  before-shown a b before =
      let at = named-stands v proper before.list before.place a before.first in (
        at.by.by,
        shows-list v proper before.list a b at.by at.at
            (record {
              place = before.place;
              later = before.later;
              in_order = before.in_order;
              first = before.first;
              second = before.second;
            }),
      )

  -- the same at the elements with two names
  module _ (a b : ℕ) (x y : NameBytes) (first : slice_get v.elements a ≡ Some x)
      (second : slice_get v.elements b ≡ Some y) where
    pub numbers-shown : (o : Operation) → Shows v o x y → ShowsNumbers v o a b
    numbers-shown o shows = (x, y, first, second, shows)

    pub names-shown : (o : Operation) → ShowsNumbers v o a b → Shows v o x y
    names-shown o shows =
        let one : shows.0 ≡ x = same_Some shows.0 x (sym shows.2 ∙ first) in
        let two : shows.1 ≡ y = same_Some shows.1 y (sym shows.3 ∙ second) in
        subst (λ z. Shows v o x z) two (subst (λ z. Shows v o z shows.1) one shows.4)

    pub numbers-before : StandsBefore v x y → Before (lists_of v) a b
    numbers-before s = shown-before s.0 a b (numbers-shown s.0 s.1)

    pub names-before : Before (lists_of v) a b → StandsBefore v x y
    names-before before = let s = before-shown a b before in (s.0, names-shown s.0 s.1)

    -- and in one list
    pub numbers-in_list : (l : ℕ) (r : Returned) → slice_get v.returned l ≡ Some r → Shows v r.by x y
        → BeforeIn (lists_of v) l a b
    numbers-in_list l r at shows =
        let s = list-shows v proper r.by a b (numbers-shown r.by shows) in
        let same : s.0 ≡ l = one_list s.0 l s.1 r s.2 at s.3 in
        subst (λ m. BeforeIn (lists_of v) m a b) same s.4
      where
        one_list : (m l : ℕ) (q r : Returned) → slice_get v.returned m ≡ Some q
            → slice_get v.returned l ≡ Some r → q.by ≡ r.by → m ≡ l
        one_list m l q r one two by = go (cases_order m l)
          where
            apart : (i j : ℕ) (s t : Returned) → i < j → slice_get v.returned i ≡ Some s
                → slice_get v.returned j ≡ Some t → s.by ≡ t.by → ⊥
            apart i j s t lt here there same =
                let order : ComesBefore s.by t.by =
                AllPairs-Before (λ (x y : Returned). ComesBefore x.by y.by) v.returned s t proper.in_order
                (Before-from_places v.returned s t i j lt here there) in
                ComesBefore-irreflexive t.by (subst (λ o. ComesBefore o t.by) same order)

            go : (m ≡ l) ⊎ ((m < l) ⊎ (l < m)) → m ≡ l
            go (inl e) = e
            go (inr (inl lt)) = absurd (apart m l q r lt one two by)
            go (inr (inr gt)) = absurd (apart l m r q gt two one (sym by))

    pub names-in_list : (l : ℕ) (r : Returned) → slice_get v.returned l ≡ Some r → BeforeIn (lists_of v) l a b
        → Shows v r.by x y
    names-in_list l r at before = names-shown r.by (shows-list v proper l a b r at before)

  -- a number before another is an element's, and so is the other
  pub before-known : (a b : ℕ) → Before (lists_of v) a b → (a < length v.elements) × (b < length v.elements)
  before-known a b before =
      let s = before-shown a b before in
      (slice_get_within v.elements a s.1.0 s.1.2, slice_get_within v.elements b s.1.1 s.1.3)

  -- names by their numbers
  pub stands-numbers : (x y : NameBytes) → StandsBefore v x y
      → Before (lists_of v) (number v.elements x) (number v.elements y)
  stands-numbers x y stands =
      let s : ShowsIn v stands.0 x y = ShowsIn-from_Shows v stands.0 x y stands.1 in
      let one =
      number-some v.elements x (elements-once v proper)
      (names-elements v proper s.0 s.1 x (Before-first x y s.0.names s.3)) in
      let two =
      number-some v.elements y (elements-once v proper)
      (names-elements v proper s.0 s.1 y (Before-second x y s.0.names s.3)) in
      let first : one.0 ≡ number v.elements x = sym (ap (λ n. unwrap_or n (length v.elements)) one.2) in
      let second : two.0 ≡ number v.elements y = sym (ap (λ n. unwrap_or n (length v.elements)) two.2) in
      let before : Before (lists_of v) one.0 two.0 = numbers-before one.0 two.0 x y one.1 two.1 stands in
      subst (λ b. Before (lists_of v) (number v.elements x) b) second
      (subst (λ a. Before (lists_of v) a two.0) first before)

  -- numbers by their names
  pub stands-names : (a b : ℕ) → Before (lists_of v) a b → StandsBefore v (name v a) (name v b)
  stands-names a b before =
      let known = before-known a b before in
      names-before a b (name v a) (name v b) (slice_get-get_or v.elements a [] known.0)
      (slice_get-get_or v.elements b [] known.1) before

  pub number-name : (a : ℕ) → a < length v.elements → number v.elements (name v a) ≡ a
  number-name a within =
      ap (λ n. unwrap_or n (length v.elements)) (number-at v.elements a (name v a) (elements-once v proper)
      (slice_get-get_or v.elements a [] within))

  -- a cycle of names is a ring of their numbers
  leads-numbers : (first last : NameBytes) (rest : List NameBytes)
      → All (IsShownPair v) (ring_from first last rest)
      → Leads (lists_of v) (number v.elements last) (numbers_in v.elements rest) (number v.elements first)
  leads-numbers first last [] all = stands-numbers last first (All-head (IsShownPair v) (last, first) [] all)
  leads-numbers first last (a ∷ rest) all = (
    stands-numbers last a (All-head (IsShownPair v) (last, a) (ring_from first a rest) all),
    leads-numbers first a rest (All-tail (IsShownPair v) (last, a) (ring_from first a rest) all),
  )

  pub ring_of_cycle : (cycle : List NameBytes) → IsCycle v cycle
      → IsRing (lists_of v) (numbers_in v.elements cycle)
  ring_of_cycle [] is = let n : 1 ≤ 0 = is.some in absurd (omega arith)
  ring_of_cycle (a ∷ rest) is = leads-numbers a a rest is.shown

  -- and a ring of numbers is a cycle of their names
  leads-names : (a z : ℕ) (path : List ℕ) → Leads (lists_of v) a path z
      → All (IsShownPair v) (ring_from (name v z) (name v a) (names_at v.elements path))
  leads-names a z [] leads =
      All-cons (IsShownPair v) (name v a, name v z) [] (stands-names a z leads) (All-nil (IsShownPair v))
  leads-names a z (b ∷ rest) leads =
      All-cons (IsShownPair v) (name v a, name v b) (ring_from (name v z) (name v b)
      (names_at v.elements rest)) (stands-names a b leads.0) (leads-names b z rest leads.1)

  pub cycle_of_ring : (ring : List ℕ) → IsRing (lists_of v) ring → IsCycle v (names_at v.elements ring)
  cycle_of_ring [] ring = absurd ring
  cycle_of_ring (a ∷ path) ring = record { some = omega arith; shown = leads-names a a path ring }

  -- the names of a ring have the ring's numbers
  path-numbers : (a z : ℕ) (path : List ℕ) → Leads (lists_of v) a path z
      → numbers_in v.elements (names_at v.elements (a ∷ path)) ≡ a ∷ path
  path-numbers a z [] leads = ap (λ n. n ∷ []) (number-name a (before-known a z leads).0)
  path-numbers a z (b ∷ rest) leads =
      ap (λ n. n ∷ numbers_in v.elements (names_at v.elements (b ∷ rest)))
      (number-name a (before-known a b leads.0).0)
      ∙ ap (λ l. a ∷ l) (path-numbers b z rest leads.1)

  pub ring-numbers : (ring : List ℕ) → IsRing (lists_of v) ring
      → numbers_in v.elements (names_at v.elements ring) ≡ ring
  ring-numbers [] ring = absurd ring
  ring-numbers (a ∷ path) ring = path-numbers a a path ring

  -- an element with a cycle is known
  pub cycle-known : (t n : ℕ) → HasCycle (lists_of v) t n → t < length v.elements
  cycle-known t zero cycle = let n : 1 ≤ 0 = cycle.0 in absurd (omega arith)
  cycle-known t (suc n) cycle = (before-known cycle.1.0 t cycle.1.2).1

  pub ring-known : (ring : List ℕ) → IsRing (lists_of v) ring → (j : ℕ) → j < length ring
      → get_or ring j 0 < length v.elements
  ring-known ring is j inside =
      cycle-known (get_or ring j 0) (length ring) (ring_through (lists_of v) ring j is inside)

  -- cycles through an element
  pub walk_of_names : (s : ℕ) (cycle : List NameBytes) → IsCycleThrough v s cycle
      → HasCycle (lists_of v) s (length cycle)
  walk_of_names s cycle is =
      let numbers : List ℕ = numbers_in v.elements cycle in
      let same : length numbers ≡ length cycle = length-map cycle (number v.elements) in
      let place = place_of_In cycle is.name (In-from_Contains cycle is.name is.through) in
      let at : get_or numbers place.0 0 ≡ s =
      get_or-map (number v.elements) cycle place.0 is.name 0 place.1
      ∙ ap (number v.elements) (get_or_from_slice_get cycle place.0 is.name is.name place.2)
      ∙ ap (λ n. unwrap_or n (length v.elements))
      (number-at v.elements s is.name (elements-once v proper) is.number) in
      let inside : place.0 < length numbers = omega (arith, place.1) in
      let walk : HasCycle (lists_of v) (get_or numbers place.0 0) (length numbers) =
      ring_through (lists_of v) numbers place.0 (ring_of_cycle cycle is.is_cycle) inside in
      subst (λ n. HasCycle (lists_of v) s n) same
      (subst (λ x. HasCycle (lists_of v) x (length numbers)) at walk)

  pub names_of_walk : (s n : ℕ) → s < length v.elements → HasCycle (lists_of v) s n
      → (cycle : List NameBytes) × IsCycleThrough v s cycle × (length cycle ≡ n)
  names_of_walk s n within walk =
      let round = cycle_ring (lists_of v) s n walk in
      let numbers : List ℕ = s ∷ round.rest in
      let cycle : List NameBytes = names_at v.elements numbers in (
        cycle,
        record {
          is_cycle = cycle_of_ring numbers round.is_ring;
          name = name v s;
          number = slice_get-get_or v.elements s [] within;
          through = Contains-from_In cycle (name v s) (inl refl);
        },
        length-map numbers (name v) ∙ round.count,
      )

  pub search_answer : (s b : ℕ) (r : Option ℕ) → s < length v.elements → IsSearchAnswer (lists_of v) s b r
      → named.IsSearchAnswer v s b r
  search_answer s b None within none = λ cycle is. none (length cycle) (walk_of_names s cycle is)
  search_answer s b (Some m) within found =
      let cycle = names_of_walk s m within found.0.cycle in (
        record {
          cycle = cycle.0;
          through = cycle.1;
          length_is = cycle.2;
          shortest = λ other is. found.0.shortest (length other) (walk_of_names s other is);
        },
        found.1,
      )

  pub no_cycle_through : (s : ℕ) → ((n : ℕ) → ¬ HasCycle (lists_of v) s n) → (cycle : List NameBytes)
      → IsCycleThrough v s cycle → ⊥
  no_cycle_through s none cycle is = none (length cycle) (walk_of_names s cycle is)

  -- a cycle goes through its first element
  pub first-walk : (cycle : List NameBytes) → IsCycle v cycle
      → (s : ℕ) × (s < length v.elements) × HasCycle (lists_of v) s (length cycle)
  first-walk [] is = let n : 1 ≤ 0 = is.some in absurd (omega arith)
  first-walk (a ∷ rest) is =
      let s : ℕ = number v.elements a in
      let numbers : List ℕ = numbers_in v.elements rest in
      let walk : HasCycle (lists_of v) s (suc (length numbers)) =
      ring_through (lists_of v) (s ∷ numbers) 0 (ring_of_cycle (a ∷ rest) is) (omega arith) in
      let round : HasCycle (lists_of v) s (suc (length rest)) =
      subst (λ n. HasCycle (lists_of v) s (suc n)) (length-map rest (number v.elements)) walk in
      (s, cycle-known s (suc (length rest)) round, round)

  -- the length of a shortest cycle
  pub shortest_of_all : (k : ℕ) → IsShortestLength v k → IsShortestOfAll v k
  shortest_of_all k is =
      let cycle = first-walk is.0.0 is.0.1 in
      record {
        source = cycle.0;
        known = cycle.1;
        cycle = subst (λ n. HasCycle (lists_of v) cycle.0 n) is.0.2 cycle.2;
        shortest = λ s n within walk. let other = names_of_walk s n within walk in
            subst (λ m. k ≤ m) other.2 (is.1 other.0 other.1.is_cycle);
      }

  pub shortest_length : (k : ℕ) → IsShortestOfAll v k → IsShortestLength v k
  shortest_length k is =
      let cycle = names_of_walk is.source k is.known is.cycle in (
        (cycle.0, cycle.1.is_cycle, cycle.2),
        λ other shown. let walk = first-walk other shown in is.shortest walk.0 (length other) walk.1 walk.2,
      )

  -- what a search finds one above this length is this length
  pub found-here : (k s b : ℕ) (r : Option ℕ) → IsShortestLength v k → s < length v.elements → b ≡ k + 1
      → IsSearchAnswer (lists_of v) s b r
      → true ≡ is_some r → HasCycle (lists_of v) s k
  found-here k s b None shortest known bound answer found = absurd (true≢false found)
  found-here k s b (Some m) shortest known bound answer found =
      let low : k ≤ m = (shortest_of_all k shortest).shortest s m known answer.0.cycle in
      let same : m ≡ k = omega (arith, answer.1) in
      subst (λ n. HasCycle (lists_of v) s n) same answer.0.cycle

  -- where it finds none, there is no cycle of this length
  pub none-here : (k s b : ℕ) (r : Option ℕ) → b ≡ k + 1 → IsSearchAnswer (lists_of v) s b r
      → false ≡ is_some r → ¬ HasCycle (lists_of v) s k
  none-here k s b None bound answer missed cycle = omega (arith, answer k cycle, bound)
  none-here k s b (Some m) bound answer missed cycle = true≢false (sym missed)

  pub no_cycle : ((s n : ℕ) → s < length v.elements → ¬ HasCycle (lists_of v) s n) → HasNoCycle v
  no_cycle none cycle is = let walk = first-walk cycle is in none walk.0 (length cycle) walk.1 walk.2

  -- the conflict number
  pub conflict-number : (k : ℕ) → IsShortestOfAll v k → HasConflictNumber v k
  conflict-number k is = ((conflict_number_is_shortest_cycle v proper).0 k).1 (shortest_length k is)

  pub no-conflict : ((s n : ℕ) → s < length v.elements → ¬ HasCycle (lists_of v) s n) → HasNoConflict v
  no-conflict none = (conflict_number_is_shortest_cycle v proper).1.1 (no_cycle none)

-- what does not come after another does not follow it in dictionary order
pub not_after-dictionary : (xs ys : List ℕ) → IsNotAfter xs ys → IsTrue (dictionary_lt ys xs) → ⊥
not_after-dictionary [] [] is lt = absurd cc
not_after-dictionary [] (y ∷ ys) is lt = absurd cc
not_after-dictionary (x ∷ xs) [] is lt = is
not_after-dictionary (x ∷ xs) (y ∷ ys) is lt =
    go (not_after-dictionary xs ys) (or_cases (nat_lt y x) ((y == x) && dictionary_lt ys xs) lt) is
  where
    go : (IsNotAfter xs ys → IsTrue (dictionary_lt ys xs) → ⊥)
        → IsTrue (nat_lt y x) ⊎ IsTrue ((y == x) && dictionary_lt ys xs)
        → (x < y) ⊎ ((x ≡ y) × IsNotAfter xs ys) → ⊥
    go further (inl less) (inl more) = let l : y < x = ltb-true y x less in omega arith
    go further (inl less) (inr same) = let l : y < x = ltb-true y x less in omega (arith, same.0)
    go further (inr rest) (inl more) = let e : y ≡ x =
        eqb-true y x (and_parts (y == x) (dictionary_lt ys xs) rest).0 in omega arith
    go further (inr rest) (inr same) = further same.1 (and_parts (y == x) (dictionary_lt ys xs) rest).1

-- the names of the first ring of the shortest length are the least cycle
pub least_cycle_of_ring : (v : Responses) → AreProper v → (k : ℕ) (numbers : List ℕ) → IsShortestLength v k
    → IsFirstRing (lists_of v) k numbers
    → IsLeastCycle v (names_at v.elements numbers)
least_cycle_of_ring v proper k numbers shortest is =
    let cycle : List NameBytes = names_at v.elements numbers in
    let count : length cycle ≡ k = length-map numbers (name v) ∙ is.count in
    record {
      is_cycle = cycle_of_ring v proper numbers is.is_ring;
      shortest = λ other shown. subst (λ n. n ≤ length other) (sym count) (shortest.1 other shown);
      first = λ other shown same before.
          let size : length (numbers_in v.elements other) ≡ k =
          length-map other (number v.elements) ∙ same ∙ count in
          not_after-dictionary numbers (numbers_in v.elements other)
          (is.first (numbers_in v.elements other) (ring_of_cycle v proper other shown) size)
          (subst (λ l. IsTrue (dictionary_lt (numbers_in v.elements other) l))
          (ring-numbers v proper numbers is.is_ring) before);
    }
