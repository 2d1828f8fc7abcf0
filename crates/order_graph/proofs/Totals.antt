-- The limits over all responses of a legal recording, and that what is kept reads as its responses.
use Rattle.std.proofs.Common.{inl, inr, ◌≡◌, ℕ, zero, suc, ◌+◌, ◌*◌, ◌≤◌, Bool, true, false, cond, Option}
use Rattle.std.proofs.Common.{Some, List, [], ◌∷◌, ◌++◌, length, map, filter, refl, ap, arith}
use Rattle.std.specs.Prelude.{unwrap_or, slice_get, option_map, sum_by, flat_map}
use Rattle.std.proofs.lemmas.List.{length-map}
use Rattle.std.proofs.lemmas.List.Sums.{sum_by-cons}
use Rattle.events.specs.Names.{NameBytes}
use Rattle.events.specs.Operation.{Operation}
use Rattle.events.specs.History.{History, IsLegal, KeepsLimits, stream, is_operation, response_of}
use Rattle.events.specs.Operations.{operations, count, nth, response, numbers_from, operation_names}
use Rattle.events.specs.declared.TheConstants.{MOST_REPLICAS, MOST_ENTRIES, MOST_PLACES}
use Rattle.events.specs.declared.entry.Body.{Body}
use Rattle.specification.specs.Elements.{numbers_in}
use Rattle.specification.specs.Responses.{Returned, responses_of}
use Rattle.specification.proofs.Members.{In, Once}
use Rattle.order_graph.specs.Lists.{AreFew}
use Rattle.order_graph.specs.Kept.{returned_of}
use Rattle.order_graph.proofs.ReadBack.{read-back}

sum-map : {X Y : Type 0} (w : Y → ℕ) (f : X → Y) (xs : List X)
    → sum_by w (map f xs) ≡ sum_by (λ x. w (f x)) xs
sum-map w f [] = refl
sum-map w f (x ∷ xs) =
    omega (arith, sum-map w f xs, sum_by-cons w (f x) (map f xs), sum_by-cons (λ x. w (f x)) x xs)

sum-append : {X : Type 0} (w : X → ℕ) (xs ys : List X) → sum_by w (xs ++ ys) ≡ sum_by w xs + sum_by w ys
sum-append w [] ys = let same : sum_by w ys ≡ 0 + sum_by w ys = omega arith in same
sum-append w (x ∷ xs) ys = omega (arith, sum-append w xs ys, sum_by-cons w x (xs ++ ys), sum_by-cons w x xs)

-- over all replicas, what is bounded for each
sum-flat : {X : Type 0} (w : X → ℕ) (f : ℕ → List X) (most : ℕ) → ((r : ℕ) → sum_by w (f r) ≤ most)
    → (from n : ℕ) → sum_by w (flat_map f (numbers_from from n)) ≤ n * most
sum-flat w f most few from zero = omega arith
sum-flat w f most few from (suc n) =
    omega (
      arith,
      few from,
      sum-flat w f most few (suc from) n,
      sum-append w (f from) (flat_map f (numbers_from (suc from) n)),
    )

sum-ones : {X : Type 0} (xs : List X) → sum_by (λ x. 1) xs ≡ length xs
sum-ones [] = refl
sum-ones (x ∷ xs) = let more = sum_by-cons (λ y. 1) x xs in omega (arith, sum-ones xs, more)

sum-filter : {X : Type 0} (w : X → ℕ) (p : X → Bool) (xs : List X) → sum_by w (filter p xs) ≤ sum_by w xs
sum-filter w p [] = omega arith
sum-filter {X = X} w p (x ∷ xs) = go (p x) (sum-filter w p xs)
  where
    go : (b : Bool) → sum_by w (filter p xs) ≤ sum_by w xs
        → sum_by w (cond b (x ∷ filter p xs) (filter p xs)) ≤ sum_by w (x ∷ xs)
    go true le = omega (arith, le, sum_by-cons w x (filter p xs), sum_by-cons w x xs)
    go false le = omega (arith, le, sum_by-cons w x xs)

sum-shifted : (w : ℕ → ℕ) (from n : ℕ) → sum_by w (numbers_from (suc from) n)
    ≡ sum_by (λ j. w (suc j)) (numbers_from from n)
sum-shifted w from zero = refl
sum-shifted w from (suc n) =
    omega (
      arith,
      sum-shifted w (suc from) n,
      sum_by-cons w (suc from) (numbers_from (suc (suc from)) n),
      sum_by-cons (λ j. w (suc j)) from (numbers_from (suc from) n),
    )

-- by places or by members
sum-places : {X : Type 0} (w : Option X → ℕ) (xs : List X)
    → sum_by (λ j. w (slice_get xs j)) (numbers_from 0 (length xs)) ≡ sum_by (λ x. w (Some x)) xs
sum-places w [] = refl
sum-places w (x ∷ xs) =
    omega (
      arith,
      sum-places w xs,
      sum-shifted (λ j. w (slice_get (x ∷ xs) j)) 0 (length xs),
      sum_by-cons (λ j. w (slice_get (x ∷ xs) j)) 0 (numbers_from 1 (length xs)),
      sum_by-cons (λ x. w (Some x)) x xs,
    )

abbrev names_of : History → ℕ → List Operation
names_of h r = map (λ n. record { replica = r; n = n }) (numbers_from 1 (count h r))

abbrev weight : Option Body → ℕ
weight b = length (unwrap_or (option_map response_of b) [])

length-numbers : (from n : ℕ) → length (numbers_from from n) ≡ n
length-numbers from zero = refl
length-numbers from (suc n) = ap suc (length-numbers (suc from) n)

module _ (h : History) (legal : IsLegal h) where
  lists-of_replica : (r : ℕ) → sum_by (λ o. 1) (names_of h r) ≤ MOST_ENTRIES
  lists-of_replica r =
      let limits : KeepsLimits (stream h r) = legal.limits r in
      let few : sum_by (λ b. 1) (operations h r) ≤ sum_by (λ b. 1) (stream h r) =
      sum-filter (λ b. 1) is_operation (stream h r) in
      omega (
        arith,
        limits.entries,
        few,
        sum-ones (names_of h r),
        sum-ones (operations h r),
        sum-ones (stream h r),
        length-map {B = Operation} (numbers_from 1 (count h r)) (λ n. record { replica = r; n = n }),
        length-numbers 1 (count h r),
      )

  places-of_replica : (r : ℕ) → sum_by (λ o. length (response h o)) (names_of h r) ≤ MOST_PLACES
  places-of_replica r =
      let limits : KeepsLimits (stream h r) = legal.limits r in
      let a : sum_by (λ o. length (response h o)) (names_of h r)
      ≡ sum_by (λ n. weight (nth (operations h r) n)) (numbers_from 1 (count h r)) =
      sum-map (λ o. length (response h o)) (λ n. record { replica = r; n = n })
      (numbers_from 1 (count h r)) in
      let b : sum_by (λ n. weight (nth (operations h r) n)) (numbers_from 1 (count h r))
      ≡ sum_by (λ j. weight (slice_get (operations h r) j)) (numbers_from 0 (count h r)) =
      sum-shifted (λ n. weight (nth (operations h r) n)) 0 (count h r) in
      let c : sum_by (λ j. weight (slice_get (operations h r) j)) (numbers_from 0 (count h r))
      ≡ sum_by (λ b. length (response_of b)) (operations h r) =
      sum-places weight (operations h r) in
      let d : sum_by (λ b. length (response_of b)) (operations h r)
      ≤ sum_by (λ b. length (response_of b)) (stream h r) =
      sum-filter (λ b. length (response_of b)) is_operation (stream h r) in
      omega (arith, a, b, c, d, limits.places)

  pub few-responses : AreFew (responses_of h)
  few-responses =
      let replicas : h.replicas ≤ MOST_REPLICAS = legal.few_replicas in
      let lists : sum_by (λ o. 1) (operation_names h) ≤ h.replicas * MOST_ENTRIES =
      sum-flat (λ o. 1) (names_of h) MOST_ENTRIES lists-of_replica 0 h.replicas in
      let places : sum_by (λ o. length (response h o)) (operation_names h) ≤ h.replicas * MOST_PLACES =
      sum-flat (λ o. length (response h o)) (names_of h) MOST_PLACES places-of_replica 0 h.replicas in
      record {
        lists = omega (
          arith,
          lists,
          replicas,
          sum-ones (operation_names h),
          length-map {B = Returned} (operation_names h) (λ o. record { by = o; names = response h o }),
        );
        places =
            omega (
              arith,
              places,
              replicas,
              sum-map (λ (r : Returned). length r.names)
                  (λ o. record { by = o; names = response h o }) (operation_names h),
            );
      }

-- lists of the numbers of responses read as the responses
pub returned-back : (names : List NameBytes) (answer : Operation → List NameBytes) (os : List Operation)
    → Once names → ((o : Operation) → In o os → (a : NameBytes) → In a (answer o) → In a names)
    → returned_of names os (map (λ o. numbers_in names (answer o)) os)
    ≡ map (λ o. record { by = o; names = answer o }) os
returned-back names answer [] once known = refl
returned-back names answer (o ∷ os) once known =
    let here = read-back names (answer o) once (known o (inl refl)) in
    let rest = returned-back names answer os once (λ p i. known p (inr i)) in
    λ i. record { by = o; names = here i } ∷ rest i
