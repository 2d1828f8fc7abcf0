-- Whether a value is a legal recording's verdict is computed, slowly and by the words of the definitions:
-- against all permutations for the least order, against all lists of elements of each length for the least
-- cycle. It is for small recordings; the worked recordings are shown by it.
use Rattle.std.proofs.Common.{◌≡◌, ℕ, ◌<◌, ◌≤◌, ◌⊎◌, inl, inr, Bool, true, false, List, [], ◌∷◌, map, length}
use Rattle.std.proofs.Common.{refl, sym, ◌∙◌, arith, subst}
use Rattle.std.specs.Prelude.{Decides, not, ◌&&◌, ◌||◌, ◌==◌, nat_le, bytes_eq}
use Rattle.std.specs.List.{list_all, list_any}
use Rattle.std.proofs.lemmas.Bool.{false≢true, cases_lt, and_parts, leb-true, le-leb, eqb-true}
use Rattle.std.proofs.lemmas.Bool.Decides.{Decides-like, Decides-and, Decides-or, Decides-not}
use Rattle.std.proofs.lemmas.List.Sorted.{length_permutation}
use Rattle.std.proofs.lemmas.List.{length-map}
use Rattle.std.proofs.lemmas.Slice.Eq.{bytes_eq-Decides}
use Rattle.specification.specs.Faults.{IsSound}
use Rattle.events.specs.Names.{NameBytes}
use Rattle.events.specs.Operation.{Operation, operation_lt, ComesBefore, IsLeast}
use Rattle.events.specs.History.{History, IsLegal}
use Rattle.events.specs.Operations.{numbers_from}
use Rattle.specification.specs.Elements.{numbers_in}
use Rattle.specification.specs.Responses.{Responses, Returned, responses_of, Shows, StandsBefore, AreProper}
use Rattle.specification.specs.Orders.{IsSubsequence, IsElementOrder, FollowsAll, IsFollowingOrder}
use Rattle.specification.specs.Orders.{dictionary_lt, ComesFirst, IsLeastOrder}
use Rattle.specification.specs.Conflict.{ring, IsCycle, IsLeastCycle, Step, AreLeastSteps}
use Rattle.specification.specs.Search.{IsShortestLength}
use Rattle.specification.specs.Verdict.{Verdict, faulty, accepted, refused, IsVerdict}
use Rattle.specification.proofs.Members.{In, Before, All-member, All-from_members}
use Rattle.specification.proofs.Permutations.{permutation_of_members, In-permutation, In-permutation_back}
use Rattle.specification.proofs.Permutations.{Once-permutation}
use Rattle.specification.proofs.Shown.{same_name, ShowsIn, ShowsIn-from_Shows, Shows-from_ShowsIn}
use Rattle.specification.proofs.Shown.{elements-once}
use Rattle.specification.proofs.Cycles.{cycle-elements}
use Rattle.specification.proofs.OperationNames.{In-numbers_from}
use Rattle.specification.proofs.ConflictNumber.{number_from_shortest}
use Rattle.specification.proofs.SoundResponses.{sound_responses_are_proper}
use Rattle.specification.proofs.Tests.{Decides-each, Decides-some, is_in, Decides-in, is_before}
use Rattle.specification.proofs.Tests.{Decides-before, is_once, Decides-once, is_operation_named}
use Rattle.specification.proofs.Tests.{Decides-operation, lists_of, In-lists_of}
use Rattle.specification.proofs.FirstFault.{is_sound, Decides-sound, is_first_fault, Decides-first_fault}

-- orders
abbrev pub is_subsequence : List NameBytes → List NameBytes → Bool
is_subsequence [] order = true
is_subsequence (a ∷ w) [] = false
is_subsequence (a ∷ w) (b ∷ order) = (bytes_eq a b && is_subsequence w order) || is_subsequence (a ∷ w) order

pub Decides-subsequence : (w order : List NameBytes)
    → Decides (is_subsequence w order) (IsSubsequence w order)
Decides-subsequence [] order = (λ e. tt, λ s. refl)
Decides-subsequence (a ∷ w) [] = (λ e. absurd (false≢true e), λ s. absurd s)
Decides-subsequence (a ∷ w) (b ∷ order) =
    Decides-or (bytes_eq a b && is_subsequence w order) (is_subsequence (a ∷ w) order)
    (Decides-and (bytes_eq a b) (is_subsequence w order) (bytes_eq-Decides a b) (Decides-subsequence w order))
    (Decides-subsequence (a ∷ w) order)

abbrev pub is_element_order : Responses → List NameBytes → Bool
is_element_order v order =
    is_once bytes_eq order && (list_all (λ a. is_in bytes_eq a v.elements) order && list_all
    (λ a. is_in bytes_eq a order) v.elements)

Decides-members : (xs ys : List NameBytes)
    → Decides (list_all (λ a. is_in bytes_eq a ys) xs) ((a : NameBytes) → In a xs → In a ys)
Decides-members xs ys =
    Decides-each (λ a. is_in bytes_eq a ys) (λ a. In a ys) (λ a. Decides-in bytes_eq bytes_eq-Decides a ys) xs

pub Decides-element_order : (v : Responses) → AreProper v → (order : List NameBytes)
    → Decides (is_element_order v order) (IsElementOrder v order)
Decides-element_order v proper order =
    Decides-like (is_element_order v order)
    (λ k. permutation_of_members v.elements order (elements-once v proper) k.0 k.1.1 k.1.0)
    (λ p. (
      Once-permutation same_name v.elements order p (elements-once v proper),
      (λ a i. In-permutation_back v.elements order a p i, λ a i. In-permutation v.elements order a p i),
    ))
    (Decides-and (is_once bytes_eq order) (list_all (λ a. is_in bytes_eq a v.elements) order && list_all
    (λ a. is_in bytes_eq a order) v.elements)
    (Decides-once bytes_eq bytes_eq-Decides order)
    (Decides-and (list_all (λ a. is_in bytes_eq a v.elements) order)
    (list_all (λ a. is_in bytes_eq a order) v.elements)
    (Decides-members order v.elements) (Decides-members v.elements order)))

abbrev follows_all : Responses → List NameBytes → Bool
follows_all v order = list_all (λ r. is_subsequence r.names order) v.returned

Decides-follows_all : (v : Responses) (order : List NameBytes)
    → Decides (follows_all v order) (FollowsAll v order)
Decides-follows_all v order =
    Decides-like (follows_all v order)
    (λ all. All-from_members (λ (r : Returned). IsSubsequence r.names order) v.returned all)
    (λ all r i. All-member (λ (r : Returned). IsSubsequence r.names order) v.returned r all i)
    (Decides-each (λ (r : Returned). is_subsequence r.names order) (λ r. IsSubsequence r.names order)
    (λ r. Decides-subsequence r.names order) v.returned)

abbrev pub is_following : Responses → List NameBytes → Bool
is_following v order = is_element_order v order && follows_all v order

pub Decides-following : (v : Responses) → AreProper v → (order : List NameBytes)
    → Decides (is_following v order) (IsFollowingOrder v order)
Decides-following v proper order =
    Decides-and (is_element_order v order) (follows_all v order) (Decides-element_order v proper order)
    (Decides-follows_all v order)

abbrev comes_first : Responses → List NameBytes → List NameBytes → Bool
comes_first v xs ys = dictionary_lt (numbers_in v.elements xs) (numbers_in v.elements ys)

Decides-comes_first : (v : Responses) (xs ys : List NameBytes)
    → Decides (comes_first v xs ys) (ComesFirst v xs ys)
Decides-comes_first v xs ys = (λ e. e, λ e. e)

abbrev is_least_order : Responses → List NameBytes → Bool
is_least_order v order =
    is_following v order && list_all (λ other. not (is_following v other && comes_first v other order))
    (lists_of (length v.elements) v.elements)

least_order-from : (v : Responses) → AreProper v → (order : List NameBytes) → is_least_order v order ≡ true
    → IsLeastOrder v order
least_order-from v proper order t =
    let p : (is_following v order ≡ true)
    × (list_all (λ other. not (is_following v other && comes_first v other order))
    (lists_of (length v.elements) v.elements) ≡ true) = and_parts _ _ t in
    record {
      follows = (Decides-following v proper order).0 p.0;
      least = λ other follows first.
          (Decides-each (λ other. not (is_following v other && comes_first v other order))
          (λ other. (IsFollowingOrder v other × ComesFirst v other order) → ⊥)
          (λ other. Decides-not (is_following v other && comes_first v other order)
          (Decides-and (is_following v other) (comes_first v other order) (Decides-following v proper other)
          (Decides-comes_first v other order)))
          (lists_of (length v.elements) v.elements)).0 p.1 other
          (In-lists_of (length v.elements) v.elements other (length_permutation v.elements other follows.0)
          (λ a i. In-permutation_back v.elements other a follows.0 i))
          (follows, first);
    }

-- cycles
abbrev pub stands_before : Responses → NameBytes → NameBytes → Bool
stands_before v a b = list_any (λ r. is_before bytes_eq a b r.names) v.returned

pub Decides-stands_before : (v : Responses) (a b : NameBytes)
    → Decides (stands_before v a b) (StandsBefore v a b)
Decides-stands_before v a b =
    Decides-like (stands_before v a b) (λ s. (s.0.by, Shows-from_ShowsIn v s.0.by a b (s.0, s.1, refl, s.2)))
    (λ k. let s : ShowsIn v k.0 a b = ShowsIn-from_Shows v k.0 a b k.1 in (s.0, s.1, s.3))
    (Decides-some (λ (r : Returned). is_before bytes_eq a b r.names) (λ r. Before a b r.names)
    (λ r. Decides-before bytes_eq bytes_eq-Decides a b r.names) v.returned)

abbrev is_cycle : Responses → List NameBytes → Bool
is_cycle v c = nat_le 1 (length c) && list_all (λ p. stands_before v p.0 p.1) (ring c)

Decides-cycle : (v : Responses) (c : List NameBytes) → Decides (is_cycle v c) (IsCycle v c)
Decides-cycle v c =
    Decides-like (is_cycle v c)
    (λ k. record {
      some = k.0;
      shown = All-from_members {X = NameBytes × NameBytes} (λ p. StandsBefore v p.0 p.1) (ring c) k.1;
    })
    (λ is. (
      is.some,
      λ p i. All-member {X = NameBytes × NameBytes} (λ p. StandsBefore v p.0 p.1) (ring c) p is.shown i,
    ))
    (Decides-and (nat_le 1 (length c)) (list_all (λ p. stands_before v p.0 p.1) (ring c))
    (leb-true 1 (length c), le-leb 1 (length c))
    (Decides-each {X = NameBytes × NameBytes} (λ p. stands_before v p.0 p.1) (λ p. StandsBefore v p.0 p.1)
    (λ p. Decides-stands_before v p.0 p.1) (ring c)))

abbrev is_least_cycle : Responses → List NameBytes → Bool
is_least_cycle v c =
    is_cycle v c && (list_all (λ m. list_all (λ other. not (is_cycle v other)) (lists_of m v.elements))
    (numbers_from 0 (length c))
    && list_all (λ other. not (is_cycle v other && comes_first v other c)) (lists_of (length c) v.elements))

least_cycle-from : (v : Responses) → AreProper v → (c : List NameBytes) → is_least_cycle v c ≡ true
    → IsLeastCycle v c
least_cycle-from v proper c t =
    let p : (is_cycle v c ≡ true)
    × ((list_all (λ m. list_all (λ other. not (is_cycle v other)) (lists_of m v.elements))
    (numbers_from 0 (length c))
    && list_all (λ other. not (is_cycle v other && comes_first v other c)) (lists_of (length c) v.elements))
    ≡ true) = and_parts _ _ t in
    let q : (list_all (λ m. list_all (λ other. not (is_cycle v other)) (lists_of m v.elements))
    (numbers_from 0 (length c)) ≡ true)
    × (list_all (λ other. not (is_cycle v other && comes_first v other c)) (lists_of (length c) v.elements)
    ≡ true) = and_parts _ _ p.1 in
    record {
      is_cycle = (Decides-cycle v c).0 p.0;
      shortest = λ other is. shortest other is q.0 (cases_lt (length other) (length c));
      first = λ other is e before.
          (Decides-each (λ other. not (is_cycle v other && comes_first v other c))
          (λ other. (IsCycle v other × ComesFirst v other c) → ⊥)
          (λ other. Decides-not (is_cycle v other && comes_first v other c)
          (Decides-and (is_cycle v other) (comes_first v other c) (Decides-cycle v other)
          (Decides-comes_first v other c)))
          (lists_of (length c) v.elements)).0 q.1 other (In-lists_of (length c) v.elements other e
          (λ a i. cycle-elements v proper other is a i)) (is, before);
    }
  where
    none_of : (m : ℕ)
        → Decides (list_all (λ other. not (is_cycle v other)) (lists_of m v.elements))
        ((other : List NameBytes) → In other (lists_of m v.elements) → IsCycle v other → ⊥)
    none_of m =
        Decides-each (λ other. not (is_cycle v other)) (λ other. IsCycle v other → ⊥)
        (λ other. Decides-not (is_cycle v other) (Decides-cycle v other)) (lists_of m v.elements)

    shortest : (other : List NameBytes) → IsCycle v other
        → list_all (λ m. list_all (λ other. not (is_cycle v other)) (lists_of m v.elements))
        (numbers_from 0 (length c)) ≡ true →
        (length other < length c) ⊎ (length c ≤ length other) → length c ≤ length other
    shortest other is t (inr le) = le
    shortest other is t (inl lt) =
        absurd
        ((Decides-each (λ m. list_all (λ other. not (is_cycle v other)) (lists_of m v.elements))
        (λ m. (other : List NameBytes) → In other (lists_of m v.elements) → IsCycle v other → ⊥)
        none_of (numbers_from 0 (length c))).0 t (length other)
        (In-numbers_from 0 (length c) (length other) (omega arith) (omega arith))
        other (In-lists_of (length other) v.elements other refl (λ a i. cycle-elements v proper other is a i))
        is)

-- the steps that a refusal gives
abbrev pub shows : Responses → NameBytes → NameBytes → Operation → Bool
shows v a b o = list_any (λ r. is_operation_named r.by o && is_before bytes_eq a b r.names) v.returned

pub Decides-shows : (v : Responses) (a b : NameBytes) (o : Operation)
    → Decides (shows v a b o) (Shows v o a b)
Decides-shows v a b o =
    Decides-like (shows v a b o) (λ s. Shows-from_ShowsIn v o a b (s.0, s.1, s.2.0, s.2.1))
    (λ k. let s : ShowsIn v o a b = ShowsIn-from_Shows v o a b k in (s.0, s.1, (s.2, s.3)))
    (Decides-some (λ (r : Returned). is_operation_named r.by o && is_before bytes_eq a b r.names)
    (λ r. (r.by ≡ o) × Before a b r.names)
    (λ r. Decides-and (is_operation_named r.by o) (is_before bytes_eq a b r.names) (Decides-operation r.by o)
    (Decides-before bytes_eq bytes_eq-Decides a b r.names)) v.returned)

abbrev none_before : Responses → NameBytes → NameBytes → Operation → Bool
none_before v a b o = list_all (λ r. not (operation_lt r.by o && is_before bytes_eq a b r.names)) v.returned

least_showing-from : (v : Responses) (a b : NameBytes) (o : Operation)
    → (shows v a b o && none_before v a b o) ≡ true → IsLeast (λ p. Shows v p a b) o
least_showing-from v a b o t =
    let p : (shows v a b o ≡ true) × (none_before v a b o ≡ true) = and_parts _ _ t in
    record {
      holds = (Decides-shows v a b o).0 p.0;
      least = λ f showing before.
          let s : ShowsIn v f a b = ShowsIn-from_Shows v f a b showing in
          (Decides-each (λ (r : Returned). not (operation_lt r.by o && is_before bytes_eq a b r.names))
          (λ r. (ComesBefore r.by o × Before a b r.names) → ⊥)
          (λ r. Decides-not (operation_lt r.by o && is_before bytes_eq a b r.names)
          (Decides-and (operation_lt r.by o) (is_before bytes_eq a b r.names) (λ e. e, λ e. e)
          (Decides-before bytes_eq bytes_eq-Decides a b r.names))) v.returned).0
          p.1 s.0 s.1 (subst (λ g. ComesBefore g o) (sym s.2) before, s.3);
    }

abbrev pub are_pairs : List (NameBytes × NameBytes) → List (NameBytes × NameBytes) → Bool
are_pairs [] [] = true
are_pairs [] (q ∷ qs) = false
are_pairs (p ∷ ps) [] = false
are_pairs (p ∷ ps) (q ∷ qs) = (bytes_eq p.0 q.0 && bytes_eq p.1 q.1) && are_pairs ps qs

pub pairs-from : (ps qs : List (NameBytes × NameBytes)) → are_pairs ps qs ≡ true → ps ≡ qs
pairs-from [] [] t = refl
pairs-from [] (q ∷ qs) t = absurd (false≢true t)
pairs-from (p ∷ ps) [] t = absurd (false≢true t)
pairs-from (p ∷ ps) (q ∷ qs) t =
    let both : ((bytes_eq p.0 q.0 && bytes_eq p.1 q.1) ≡ true) × (are_pairs ps qs ≡ true) = and_parts _ _ t in
    let each : (bytes_eq p.0 q.0 ≡ true) × (bytes_eq p.1 q.1 ≡ true) = and_parts _ _ both.0 in
    let one : p.0 ≡ q.0 = (bytes_eq-Decides p.0 q.0).0 each.0 in
    let two : p.1 ≡ q.1 = (bytes_eq-Decides p.1 q.1).0 each.1 in
    let rest : ps ≡ qs = pairs-from ps qs both.1 in
    λ i. (one i, two i) ∷ rest i

abbrev is_refusal : Responses → ℕ → List Step → Bool
is_refusal v k steps =
    (length steps == k) && (are_pairs (map (λ s. (s.from, s.to)) steps) (ring (map (λ s. s.from) steps))
    && (is_least_cycle v (map (λ s. s.from) steps) && list_all
    (λ s. shows v s.from s.to s.shown && none_before v s.from s.to s.shown) steps))

abbrev pub is_verdict : History → Verdict → Bool
is_verdict h (faulty fault) = is_first_fault h fault
is_verdict h (accepted order) = is_sound h && is_least_order (responses_of h) order
is_verdict h (refused k steps) = is_sound h && is_refusal (responses_of h) k steps

least_steps-from : (v : Responses) → AreProper v → (k : ℕ) (steps : List Step) → is_refusal v k steps ≡ true
    → AreLeastSteps v steps × (length steps ≡ k) × IsShortestLength v k
least_steps-from v proper k steps t =
    let one : ((length steps == k) ≡ true)
    × ((are_pairs (map (λ s. (s.from, s.to)) steps) (ring (map (λ s. s.from) steps))
    && (is_least_cycle v (map (λ s. s.from) steps) && list_all
    (λ s. shows v s.from s.to s.shown && none_before v s.from s.to s.shown) steps)) ≡ true) =
    and_parts _ _ t in
    let two : (are_pairs (map (λ s. (s.from, s.to)) steps) (ring (map (λ s. s.from) steps)) ≡ true)
    × ((is_least_cycle v (map (λ s. s.from) steps) && list_all
    (λ s. shows v s.from s.to s.shown && none_before v s.from s.to s.shown) steps) ≡ true) =
    and_parts _ _ one.1 in
    let three : (is_least_cycle v (map (λ s. s.from) steps) ≡ true)
    × (list_all (λ s. shows v s.from s.to s.shown && none_before v s.from s.to s.shown) steps ≡ true) =
    and_parts _ _ two.1 in
    let size : length steps ≡ k = eqb-true (length steps) k one.0 in
    let least : IsLeastCycle v (map (λ s. s.from) steps) =
    least_cycle-from v proper (map (λ s. s.from) steps) three.0 in
    let from_size : length (map (λ (s : Step). s.from) steps) ≡ k =
    length-map steps (λ (s : Step). s.from) ∙ size in (
      record {
        joined = pairs-from (map (λ s. (s.from, s.to)) steps) (ring (map (λ s. s.from) steps)) two.0;
        cycle = least;
        operations =
            All-from_members (λ (s : Step). IsLeast (λ o. Shows v o s.from s.to) s.shown) steps
            (λ s i. least_showing-from v s.from s.to s.shown
            ((Decides-each (λ (s : Step). shows v s.from s.to s.shown && none_before v s.from s.to s.shown)
            (λ s. (shows v s.from s.to s.shown && none_before v s.from s.to s.shown) ≡ true)
            (λ s. (λ e. e, λ e. e)) steps).0 three.1 s i));
      },
      size,
      (
        (map (λ s. s.from) steps, least.is_cycle, from_size),
        λ c is. let le :
            length (map (λ (s : Step). s.from) steps) ≤ length c = least.shortest c is in omega arith,
      ),
    )

pub verdict-from : (h : History) → IsLegal h → (v : Verdict) → is_verdict h v ≡ true → IsVerdict h v
verdict-from h legal (faulty fault) t = (Decides-first_fault h legal fault).0 t
verdict-from h legal (accepted order) t =
    let p : (is_sound h ≡ true) × (is_least_order (responses_of h) order ≡ true) = and_parts _ _ t in
    let sound : IsSound h = (Decides-sound h legal).0 p.0 in
    (sound, least_order-from (responses_of h) (sound_responses_are_proper h legal sound) order p.1)
verdict-from h legal (refused k steps) t =
    let p : (is_sound h ≡ true) × (is_refusal (responses_of h) k steps ≡ true) = and_parts _ _ t in
    let sound : IsSound h = (Decides-sound h legal).0 p.0 in
    let proper : AreProper (responses_of h) = sound_responses_are_proper h legal sound in
    let least : AreLeastSteps (responses_of h) steps × (length steps ≡ k)
    × IsShortestLength (responses_of h) k = least_steps-from (responses_of h) proper k steps p.1 in
    (sound, number_from_shortest (responses_of h) proper k least.2, least.0, least.1)
