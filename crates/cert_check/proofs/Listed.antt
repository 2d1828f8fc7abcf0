-- What stands before what under a function, and responses that cover those of a sound recording as lists of
-- numbers.
use Rattle.std.proofs.Common.{◌≡◌, ◌⊎◌, ℕ, ◌<◌, inl, inr, Some, List, [], ◌∷◌, map, length, get_or, refl, sym}
use Rattle.std.proofs.Common.{◌∙◌, ap, subst, arith}
use Rattle.std.specs.Prelude.{All, unwrap_or, slice_get}
use Rattle.std.proofs.lemmas.List.{get_or-map, length-map}
use Rattle.std.proofs.lemmas.Option.{slice_get-get_or, get_or_from_slice_get, slice_get_within}
use Rattle.events.specs.Names.{NameBytes}
use Rattle.events.specs.Operation.{Operation, ComesBefore}
use Rattle.events.specs.History.{History, IsLegal}
use Rattle.events.specs.Operations.{operation_names, response}
use Rattle.specification.specs.Faults.{IsSound}
use Rattle.specification.specs.Elements.{elements, numbers_in}
use Rattle.specification.specs.Orders.{IsSubsequence}
use Rattle.specification.specs.Responses.{Returned, responses_of}
use Rattle.specification.proofs.Members.{In, Before, Once, In-map, All-from_members, Once-from_AllPairs}
use Rattle.specification.proofs.Members.{place_of_In, In-from_place, In-from_Contains, Contains-from_In}
use Rattle.specification.proofs.Numbers.{number}
use Rattle.specification.proofs.OperationNames.{listed-operation, operation-listed}
use Rattle.specification.proofs.SoundResponses.{response-elements, elements-differ}
use Rattle.specification.proofs.Subsequences.{Before-subsequence}
use Rattle.specification.proofs.Strong.{returned_by}
use Rattle.element_numbers.proofs.NameNumbers.{number-at, number-some}
use Rattle.element_numbers.specs.Covering.{IsPart}
use Rattle.element_numbers.proofs.Parts.{In-part}
use Rattle.cert_check.specs.Numbering.{IsOf, lists_of, places_at}
use Rattle.cert_check.specs.declared.numbered.Numbered.{Numbered}

module _ {X Y : Type 0} (f : X → Y) where
  pub In-map_back : (y : Y) (xs : List X) → In y (map f xs) → (x : X) × In x xs × (f x ≡ y)
  In-map_back y [] i = absurd i
  In-map_back y (x ∷ xs) (inl e) = (x, inl refl, sym e)
  In-map_back y (x ∷ xs) (inr i) = let r = In-map_back y xs i in (r.0, inr r.1, r.2)

  pub Before-map : (a b : X) (xs : List X) → Before a b xs → Before (f a) (f b) (map f xs)
  Before-map a b [] h = absurd h
  Before-map a b (x ∷ xs) (inl h) = inl (ap f h.0, In-map f b xs h.1)
  Before-map a b (x ∷ xs) (inr h) = inr (Before-map a b xs h)

  pub Before-map_back : (c d : Y) (xs : List X) → Before c d (map f xs)
      → (a : X) × (b : X) × Before a b xs × (f a ≡ c) × (f b ≡ d)
  Before-map_back c d [] h = absurd h
  Before-map_back c d (x ∷ xs) (inl h) = let r = In-map_back d xs h.1 in
      (x, r.0, inl (refl, r.1), sym h.0, r.2)
  Before-map_back c d (x ∷ xs) (inr h) = let r = Before-map_back c d xs h in (r.0, r.1, inr r.2, r.3, r.4)

pub map-twice : {X Y Z : Type 0} (g : Y → Z) (f : X → Y) (xs : List X)
    → map g (map f xs) ≡ map (λ x. g (f x)) xs
map-twice g f [] = refl
map-twice g f (x ∷ xs) = ap (λ l. g (f x) ∷ l) (map-twice g f xs)

-- the number of a member is its place
pub number_of_member : (names : List NameBytes) (a : NameBytes) → Once names → In a names
    → slice_get names (number names a) ≡ Some a
number_of_member names a once i =
    let s = number-some names a once i in
    ap (λ o. slice_get names (unwrap_or o (length names))) s.2 ∙ s.1

-- the number of what stands at a place is the place
pub number_at_place : (names : List NameBytes) (i : ℕ) (a : NameBytes) → Once names
    → slice_get names i ≡ Some a → number names a ≡ i
number_at_place names i a once at = ap (λ o. unwrap_or o (length names)) (number-at names i a once at)

pub numbers-within : (names w : List NameBytes) → Once names → ((a : NameBytes) → In a w → In a names)
    → All (λ x. x < length names) (numbers_in names w)
numbers-within names w once known =
    All-from_members (λ (x : ℕ). x < length names) (numbers_in names w) (λ x i.
    let s = In-map_back (number names) x w i in
    let lt : number names s.0 < length names =
    slice_get_within names (number names s.0) s.0 (number_of_member names s.0 once (known s.0 s.1)) in
    let e : number names s.0 ≡ x = s.2 in omega arith)

module _ (h : History) (legal : IsLegal h) (sound : IsSound h) where
  pub once-elements : Once (elements h)
  once-elements = elements-differ h sound.names

  pub known-response : (o : Operation) → In o (operation_names h) → (a : NameBytes) → In a (response h o)
      → In a (elements h)
  known-response o i = response-elements h o legal (sound.right o (listed-operation h o i)).contents

  pub once-response : (o : Operation) → In o (operation_names h) → Once (response h o)
  once-response o i = Once-from_AllPairs (response h o) (sound.right o (listed-operation h o i)).contents.once

-- the lists of numbers, of operations whose responses have elements alone
pub lists-within : (h : History) (legal : IsLegal h) (sound : IsSound h) (operations : List Operation)
    → IsPart operations (operation_names h) → (lists : List (List ℕ)) →
    lists ≡ map (λ o. numbers_in (elements h) (response h o)) operations
    → All (λ list. All (λ x. x < length (elements h)) list) lists
lists-within h legal sound operations part lists is =
    All-from_members (λ (list : List ℕ). All (λ x. x < length (elements h)) list) lists (λ list i.
    let s = In-map_back (λ (o : Operation). numbers_in (elements h) (response h o)) list operations
    (subst (λ (ls : List (List ℕ)). In list ls) is i) in
    subst (λ (l : List ℕ). All (λ x. x < length (elements h)) l) s.2
    (numbers-within (elements h) (response h s.0) (once-elements h legal sound)
    (known-response h legal sound s.0 (In-part s.0 operations (operation_names h) part s.1))))

-- it holds of a list where it holds of one that has the same members in the same order, and perhaps others
abbrev pub HoldsOfFewer : (List ℕ → Type 0) → Type 0
HoldsOfFewer P = (xs ys : List ℕ) → ((a b : ℕ) → Before a b xs → Before a b ys) → P ys → P xs

-- the numbers of a subsequence stand in the same order among those of the whole
numbers-before : (names v w : List NameBytes) → IsSubsequence v w → (a b : ℕ)
    → Before a b (numbers_in names v) → Before a b (numbers_in names w)
numbers-before names v w sub a b h =
    let s = Before-map_back (number names) a b v h in
    subst (λ x. Before x b (numbers_in names w)) s.3
    (subst (λ y. Before (number names s.0) y (numbers_in names w)) s.4
    (Before-map (number names) s.0 s.1 w (Before-subsequence s.0 s.1 v w sub s.2)))

-- an operation whose list is at this place covers the other
pub record IsCovered (h : History) (t : Numbered) (o : Operation) : Type 0 where
  pub place : ℕ
  pub by : Operation
  pub within : place < length (lists_of t)
  pub at : slice_get t.operations.items place ≡ Some by
  pub before : (by ≡ o) ⊎ ComesBefore by o
  pub has : IsSubsequence (response h o) (response h by)

module _ (h : History) (t : Numbered) (of : IsOf h t) where
  -- as many lists as operations that cover all
  pub lists-count : length (lists_of t) ≡ length t.operations.items
  lists-count =
      ap (λ (l : List (List ℕ)). length l) of.places
      ∙ length-map {B = List ℕ} t.operations.items (λ o. numbers_in (elements h) (response h o))

  -- these are the recording's
  pub kept-listed : (j : ℕ) (o : Operation) → slice_get t.operations.items j ≡ Some o
      → In o (operation_names h)
  kept-listed j o at =
      In-part o t.operations.items (operation_names h) of.operations.part
      (In-from_place t.operations.items j o at)

  -- the list of an operation
  pub list_at : (j : ℕ) (o : Operation) → slice_get t.operations.items j ≡ Some o
      → places_at t j ≡ numbers_in (elements h) (response h o)
  list_at j o at =
      ap (λ (l : List (List ℕ)). get_or l j []) of.places
      ∙ get_or-map (λ o. numbers_in (elements h) (response h o)) t.operations.items j o []
      (slice_get_within t.operations.items j o at)
      ∙ ap (λ p. numbers_in (elements h) (response h p)) (get_or_from_slice_get t.operations.items j o o at)

  pub covered : (o : Operation) → In o (operation_names h) → IsCovered h t o
  covered o i =
      let k = of.operations.covered o (Contains-from_In (operation_names h) o i) in
      let p = place_of_In t.operations.items k.0 (In-from_Contains t.operations.items k.0 k.1) in
      record {
        place = p.0;
        by = k.0;
        within = omega (arith, p.1, lists-count);
        at = p.2;
        before = k.2;
        has = k.3;
      }

  -- what holds of the list of an operation holds of each response that it covers
  pub of_covered : (P : List ℕ → Type 0) → HoldsOfFewer P → (o : Operation) (c : IsCovered h t o)
      → P (places_at t c.place) → P (numbers_in (elements h) (response h o))
  of_covered P fewer o c p =
      fewer (numbers_in (elements h) (response h o)) (numbers_in (elements h) (response h c.by))
      (numbers-before (elements h) (response h o) (response h c.by) c.has)
      (subst P (list_at c.place c.by c.at) p)

  -- what holds of each list holds of each response, and back
  pub each_response : (P : List ℕ → Type 0) → HoldsOfFewer P
      → ((j : ℕ) → j < length (lists_of t) → P (places_at t j)) → (r : Returned)
      → In r (responses_of h).returned →
      In r.by (operation_names h) × (r.names ≡ response h r.by)
      × P (numbers_in (elements h) (response h r.by))
  each_response P fewer all r i =
      let by = returned_by h r i in
      let listed : In r.by (operation_names h) = operation-listed h r.by of.legal by.0 in
      let c = covered r.by listed in
      (listed, by.1, of_covered P fewer r.by c (all c.place c.within))

  pub each_list : (P : List ℕ → Type 0) → ((o : Operation) → In o (operation_names h)
      → P (numbers_in (elements h) (response h o))) → (j : ℕ) → j < length (lists_of t) → P (places_at t j)
  each_list P all j lt =
      let none : Operation = record { replica = 0; n = 0 } in
      let o : Operation = get_or t.operations.items j none in
      let at : slice_get t.operations.items j ≡ Some o =
      slice_get-get_or t.operations.items j none (omega (arith, lt, lists-count)) in
      subst P (sym (list_at j o at)) (all o (kept-listed j o at))
