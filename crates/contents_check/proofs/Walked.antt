-- What replicas are found to be, those of one part after those of another; and what that says of the
-- recording.
use Rattle.std.proofs.Common.{◌≡◌, ℕ, zero, suc, ◌+◌, ◌<◌, ◌≤◌, List, [], ◌∷◌, ◌++◌, length, map, take, drop}
use Rattle.std.proofs.Common.{get_or, refl, sym, ◌∙◌, ap, subst, arith, inl, inr, append_assoc}
use Rattle.std.specs.Prelude.{All, AllPairs}
use Rattle.std.proofs.Math.Seq.{take-add}
use Rattle.std.proofs.lemmas.List.{map-append, take-append-drop, take_more}
use Rattle.std.proofs.lemmas.Grind.{flat_map-append}
use native.Mathlib.Decide.{ℕ_discrete}
use Rattle.events.specs.Names.{NameBytes}
use Rattle.events.specs.Operation.{Operation, ComesBefore}
use Rattle.events.specs.History.{History, IsLegal}
use Rattle.events.specs.Operations.{count, numbers_from, operation_names, response}
use Rattle.specification.specs.Elements.{elements, numbers_in}
use Rattle.specification.specs.Faults.{IsRight, IsFirstFault, IsSound}
use Rattle.specification.proofs.Dictionary.{ComesBefore-from}
use Rattle.specification.proofs.Members.{In, In-append_cases, All-member, All-from_members}
use Rattle.specification.proofs.OperationNames.{AllPairs-from_Rising, In-numbers_from, Rising, Rising-map}
use Rattle.specification.proofs.OperationNames.{numbers_from-bounds}
use Rattle.element_numbers.specs.Cuts.{rows_of, IsCut}
use Rattle.visibility.proofs.Lanes.{replica_known}
use Rattle.element_numbers.specs.declared.covering.Covering.{Covering}
use Rattle.contents_check.specs.declared.elements.Elements.{Elements as Kept}
use Rattle.contents_check.specs.declared.fault.Fault.{Fault}
use Rattle.contents_check.specs.declared.fault.Fault.TheVariants.{Doubled, Contents, Position}
use Rattle.contents_check.specs.declared.walk.Walked.TheVariants.{Right}
use Rattle.contents_check.specs.declared.first.Checked.TheVariants.{Faulty}
use Rattle.element_numbers.specs.Covering.{AreCovering, Covers}
use Rattle.contents_check.specs.Covering.{first_operations, operations_of, IsChecked, IsFaultAt}
use Rattle.contents_check.specs.Covering.{IsFirstFaultAmong, IsWalked}
use Rattle.contents_check.specs.FaultOf.{fault_of}
use Rattle.contents_check.specs.Known.{element_names, AreElementsOf}
use Rattle.contents_check.specs.Replicas.{IsRightReplica}
use Rattle.contents_check.proofs.CoverPieces.{none-cover, covering-append}
use Rattle.contents_check.proofs.Doubled.{distinct}
use Rattle.contents_check.proofs.Firsts.{right_before}

-- a replica's first operations stand in order
numbers-rise : (from n : ℕ) → Rising (λ (a b : ℕ). a < b) (numbers_from from n)
numbers-rise from zero = tt
numbers-rise from (suc n) =
    ((λ z i. let b = numbers_from-bounds (suc from) n z i in omega (arith, b.0)), numbers-rise (suc from) n)

pub first-in_order : (r n : ℕ) → AllPairs (λ f e. ComesBefore f e) (first_operations r n)
first-in_order r n =
    AllPairs-from_Rising ComesBefore (first_operations r n)
    (Rising-map (λ (a b : ℕ). a < b) ComesBefore (λ (k : ℕ). record { replica = r; n = k })
    (λ a b lt. ComesBefore-from (record { replica = r; n = a }) (record { replica = r; n = b })
    (inr (refl, lt))) (numbers_from 1 n) (numbers-rise 1 n))

-- what is wrong with an operation makes it wrong
pub fault-wrong : (h : History) (e : Operation) (fault : Fault) → IsFaultAt h e fault → IsRight h e → ⊥
fault-wrong h e (Doubled first again) is right = is
fault-wrong h e (Contents at) is right = is.1 right.contents
fault-wrong h e (Position at) is right = is.2 right.position

module _ (h : History) (names : List NameBytes) where
  -- of no replica nothing is kept
  pub none-walked : (covering : Covering) → covering.operations.items ≡ [] → IsCut covering.rows
      → rows_of covering.rows ≡ [] → IsWalked h names [] (Right covering)
  none-walked covering operations cut rows = (
    All-from_members (IsRightReplica h) [] (λ r i. absurd i),
    record {
      operations = subst (λ some. AreCovering h [] some) (sym operations) (none-cover h);
      rows = record {
        cut = cut;
        rows_are = rows ∙ sym (ap (map (λ o. numbers_in names (response h o))) operations);
      };
    },
  )

  -- the replicas of one part, and then those of another
  pub walked-more : (xs ys : List ℕ) (old more new : Covering) → IsWalked h names xs (Right old)
      → IsWalked h names ys (Right more)
      → new.operations.items ≡ old.operations.items ++ more.operations.items → IsCut new.rows
      → rows_of new.rows ≡ rows_of old.rows ++ rows_of more.rows → IsWalked h names (xs ++ ys) (Right new)
  walked-more xs ys old more new one other operations cut rows = (
    All-from_members (IsRightReplica h) (xs ++ ys) (λ r i. elim (In-append_cases r xs ys i) [
      | inl j ↦ All-member (IsRightReplica h) xs r one.0 j
      | inr j ↦ All-member (IsRightReplica h) ys r other.0 j
    ]),
    record {
      operations = subst (λ l. AreCovering h (operations_of h (xs ++ ys)) l) (sym operations)
          (subst (λ l. AreCovering h l (old.operations.items ++ more.operations.items))
          (sym (flat_map-append (λ r. first_operations r (count h r)) xs ys))
          (covering-append h (operations_of h xs) (operations_of h ys) old.operations.items
          more.operations.items one.1.operations other.1.operations));
      rows = record {
        cut = cut;
        rows_are = rows ∙ ap (λ l. l ++ rows_of more.rows) one.1.rows.rows_are
            ∙ ap (λ l. map (λ o. numbers_in names (response h o)) old.operations.items ++ l)
            other.1.rows.rows_are
            ∙ sym (map-append (λ o. numbers_in names (response h o)) old.operations.items
            more.operations.items)
            ∙ ap (map (λ o. numbers_in names (response h o))) (sym operations);
      };
    },
  )

  -- a fault behind replicas that are right
  pub wrong-behind : (xs ys zs all : List ℕ) (fault : Fault) → all ≡ xs ++ (ys ++ zs)
      → All (IsRightReplica h) xs → IsFirstFaultAmong h ys fault → IsFirstFaultAmong h all fault
  wrong-behind xs ys zs all fault split right first = record {
    front = xs ++ first.front;
    replica = first.replica;
    back = first.back ++ zs;
    split = split ∙ ap (λ l. xs ++ (l ++ zs)) first.split
        ∙ ap (λ l. xs ++ l) (append_assoc first.front (first.replica ∷ first.back) zs)
        ∙ sym (append_assoc xs first.front (first.replica ∷ first.back ++ zs));
    right = All-from_members (IsRightReplica h) (xs ++ first.front)
        (λ r i. elim (In-append_cases r xs first.front i) [
          | inl j ↦ All-member (IsRightReplica h) xs r right j
          | inr j ↦ All-member (IsRightReplica h) first.front r first.right j
        ]);
    n = first.n;
    first = first.first;
    is = first.is;
  }

-- a part of the first places, after those before it
pub take-parts : {X : Type 0} (a b c m : ℕ) (xs : List X) → m ≡ a + b + c
    → take m xs ≡ take a xs ++ (take b (drop a xs) ++ take c (drop (a + b) xs))
take-parts a b c m xs is =
    ap (λ k. take k xs) is ∙ take-add (a + b) c xs ∙ ap (λ l. l ++ take c (drop (a + b) xs)) (take-add a b xs)
    ∙ append_assoc (take a xs) (take b (drop a xs)) (take c (drop (a + b) xs))

-- one place of a list, between those before it and those behind it
pub place-parts : (xs : List ℕ) (k : ℕ) → k < length xs
    → xs ≡ take k xs ++ ((get_or xs k 0 ∷ []) ++ drop (k + 1) xs)
place-parts xs k lt =
    sym (take-append-drop (k + 1) xs) ∙ ap (λ l. l ++ drop (k + 1) xs) (take_more xs k 0 lt)
    ∙ append_assoc (take k xs) (get_or xs k 0 ∷ []) (drop (k + 1) xs)

-- what stands in successive numbers before one of them
front-numbers : (from n : ℕ) (front : List ℕ) (r : ℕ) (back : List ℕ)
    → numbers_from from n ≡ front ++ r ∷ back → (q : ℕ) → from ≤ q → q < r → In q front
front-numbers from zero [] r back e q low high = absurd cc
front-numbers from zero (x ∷ front) r back e q low high = absurd cc
front-numbers from (suc n) [] r back e q low high = let first : from ≡ r = cc in
    absurd (omega (arith, first, low, high))
front-numbers from (suc n) (x ∷ front) r back e q low high =
    let first : from ≡ x = cc in
    let rest : numbers_from (suc from) n ≡ front ++ r ∷ back = cc in
    elim (ℕ_discrete q from) [
      | yes same ↦ inl (same ∙ first)
      | no other ↦ inr (front-numbers (suc from) n front r back rest q (omega (arith, low, other)) high)
    ]

module _ (h : History) (legal : IsLegal h) (kept_elements : Kept) (are : AreElementsOf h kept_elements) where
  -- the first fault of all replicas is that of the recording
  pub wrong-checked : (fault : Fault) → IsFirstFaultAmong h (numbers_from 0 h.replicas) fault
      → IsChecked h (Faulty fault)
  wrong-checked fault first = go fault first.is
    where
      before : (q : ℕ) → q < first.replica → IsRightReplica h q
      before q lt =
          All-member (IsRightReplica h) first.front q first.right
          (front-numbers 0 h.replicas first.front first.replica first.back first.split q (omega arith) lt)

      go : (fault : Fault) → IsFaultAt h (record { replica = first.replica; n = first.n }) fault
          → IsFirstFault h (fault_of fault)
      go (Doubled f a) is = absurd is
      go (Contents at) is = subst (λ (o : Operation). IsFirstFault h (fault_of (Contents o))) (sym is.0) (
        distinct h kept_elements legal are.inserts,
        first.first.operation,
        right_before h first.replica first.n before first.first,
        is.1,
      )
      go (Position at) is = subst (λ (o : Operation). IsFirstFault h (fault_of (Position o))) (sym is.0) (
        distinct h kept_elements legal are.inserts,
        first.first.operation,
        right_before h first.replica first.n before first.first,
        is.1,
        is.2,
      )

  -- where all replicas are right the recording is sound
  pub right-sound : (covering : Covering)
      → IsWalked h (element_names kept_elements) (numbers_from 0 h.replicas) (Right covering)
      → IsSound h × Covers h (elements h) (operation_names h) covering
  right-sound covering walked = (
    record {
      names = distinct h kept_elements legal are.inserts;
      right = λ e is. All-member (IsRightReplica h) (numbers_from 0 h.replicas) e.replica walked.0
          (In-numbers_from 0 h.replicas e.replica (omega arith) (omega (arith, replica_known h e legal is))) e
          refl is;
    },
    subst (λ (l : List NameBytes). Covers h l (operation_names h) covering) are.listed walked.1,
  )
