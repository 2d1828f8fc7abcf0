-- One operation more of a replica, which is kept or covered by one that is.
use Rattle.std.proofs.Common.{◌≡◌, ℕ, ◌+◌, ◌-◌, ◌≤◌, List, [], ◌∷◌, ◌++◌, map, refl, sym, ap, ◌∙◌, subst}
use Rattle.std.proofs.Common.{arith, inl}
use Rattle.std.specs.Prelude.{Contains, OnOk, Result, Ok, Err}
use Rattle.std.proofs.lemmas.List.{map-append}
use Rattle.events.specs.Operation.{Operation}
use Rattle.events.specs.History.{History}
use Rattle.events.specs.Operations.{response}
use Rattle.events.proofs.Numbers.{names_push}
use Rattle.specification.specs.Elements.{numbers_in}
use Rattle.specification.specs.Orders.{IsSubsequence}
use Rattle.specification.proofs.Members.{In, In-append_right, In-from_Contains}
use Rattle.element_numbers.specs.Cuts.{rows_of, IsCut}
use Rattle.element_numbers.specs.declared.covering.Covering.{Covering}
use Rattle.contents_check.specs.Covering.{first_operations, AreKeptOf, IsFoundIn}
use Rattle.contents_check.specs.Walk.{response_before, IsKept}
use Rattle.specification.proofs.Subsequences.{subsequence-trans}
use Rattle.contents_check.proofs.CoverSteps.{one_kept, one_left_out}

pub on_ok-three : {X E : Type 0} {A B C D : Type 0} (r : Result X E) → (A → B → C → D) → OnOk r A → OnOk r B
    → OnOk r C → OnOk r D
on_ok-three (Ok x) f a b c = f a b c
on_ok-three (Err e) f a b c = tt

module _ (h : History) (e : Operation) (first : 1 ≤ e.n) where
  abbrev before : List Operation
  before = first_operations e.replica (e.n - 1)

  one_more : before ++ e ∷ [] ≡ first_operations e.replica e.n
  one_more =
      let number : e.n - 1 + 1 ≡ e.n = omega (arith, first) in
      ap (λ (k : ℕ). before ++ record { replica = e.replica; n = k } ∷ []) (sym number)
      ∙ names_push e.replica (e.n - 1) ∙ ap (first_operations e.replica) number

  -- the operation before is among those before
  last-in : 2 ≤ e.n → In (record { replica = e.replica; n = e.n - 1 }) before
  last-in more =
      let number : e.n - 1 - 1 + 1 ≡ e.n - 1 = omega (arith, more) in
      let o : Operation = record { replica = e.replica; n = e.n - 1 } in
      subst (In o)
      (ap (λ (k : ℕ). first_operations e.replica (e.n - 1 - 1) ++ record { replica = e.replica; n = k }
      ∷ []) (sym number) ∙ names_push e.replica (e.n - 1 - 1) ∙ ap (first_operations e.replica) number)
      (In-append_right o (first_operations e.replica (e.n - 1 - 1)) (o ∷ []) (inl refl))

  left_out : (row : List ℕ) (covering : Covering) (p : Operation) → In p covering.operations.items
      → IsSubsequence (response h e) (response h p) → IsKept h e row covering covering
  left_out row covering p i s = λ names kept rows row_is. (
    subst (λ l. AreKeptOf h l covering.operations.items) one_more
        (one_left_out h before covering.operations.items e p kept i s),
    rows,
  )

  pub part-left_out : (row : List ℕ) (covering : Covering) → 2 ≤ e.n
      → IsSubsequence (response h e) (response_before h e.replica e.n) → IsKept h e row covering covering
  part-left_out row covering more s = λ names kept rows row_is.
      let o : Operation = record { replica = e.replica; n = e.n - 1 } in
      let c : IsFoundIn h before covering.operations.items o = kept.covered o (last-in more) in
      left_out row covering c.0 c.1 (subsequence-trans (response h e) (response h o) (response h c.0) s c.3)
      names kept rows row_is

  pub found-left_out : (row : List ℕ) (covering : Covering) (some : List Operation)
      → some ≡ covering.operations.items
      → ((p : Operation) × Contains some p × IsSubsequence (response h e) (response h p))
      → IsKept h e row covering covering
  found-left_out row covering some is found =
      left_out row covering found.0 (In-from_Contains covering.operations.items found.0
      (subst (λ (l : List Operation). Contains l found.0) is found.1)) found.2

  pub kept-more : (row : List ℕ) (old new : Covering) → new.operations.items ≡ old.operations.items ++ e ∷ []
      → IsCut new.rows → rows_of new.rows ≡ rows_of old.rows ++ row ∷ [] → IsKept h e row old new
  kept-more row old new operations cut rows_are = λ names kept rows row_is. (
    subst (λ l. AreKeptOf h l new.operations.items) one_more
        (subst (λ l. AreKeptOf h (before ++ e ∷ []) l) (sym operations)
        (one_kept h before old.operations.items e kept)),
    record {
      cut = cut;
      rows_are = rows_are ∙ ap (λ l. l ++ row ∷ []) rows.rows_are
          ∙ ap (λ r. map (λ o. numbers_in names (response h o)) old.operations.items ++ r ∷ []) row_is
          ∙ sym (map-append (λ o. numbers_in names (response h o)) old.operations.items (e ∷ []))
          ∙ ap (map (λ o. numbers_in names (response h o))) (sym operations);
    },
  )
