-- One operation more, kept or covered by one that is kept; and one place more of a response that is looked
-- for in another.
use Rattle.std.proofs.Common.{◌≡◌, ℕ, zero, suc, ◌+◌, ◌≤◌, ◌⊎◌, inl, inr, List, [], ◌∷◌, ◌++◌, length, take}
use Rattle.std.proofs.Common.{drop, refl, sym, subst, arith, length-drop}
use Rattle.std.specs.Prelude.{AllPairs}
use Rattle.std.proofs.lemmas.List.{drop_all, drop-drop}
use Rattle.events.specs.Names.{NameBytes}
use Rattle.events.specs.Operation.{Operation, ComesBefore}
use Rattle.events.specs.History.{History}
use Rattle.events.specs.Operations.{response}
use Rattle.specification.specs.Orders.{IsSubsequence}
use Rattle.specification.proofs.Members.{In, Before, In-append_left, In-append_right, In-append_cases}
use Rattle.specification.proofs.Members.{In-from_Contains, Contains-from_In, AllPairs-Before}
use Rattle.specification.proofs.Subsequences.{subsequence-refl}
use Rattle.element_numbers.specs.Covering.{AreCovering}
use Rattle.contents_check.specs.Covering.{AreKeptOf, IsFoundIn}
use Rattle.element_numbers.proofs.Parts.{In-part, part-skip, part-keep}

subsequence-later : (b : NameBytes) (w order : List NameBytes) → IsSubsequence w order
    → IsSubsequence w (b ∷ order)
subsequence-later b [] order s = tt
subsequence-later b (a ∷ w) order s = inr s

drop-later : (w : List NameBytes) (i : ℕ) (s : List NameBytes) → IsSubsequence s (drop (suc i) w)
    → IsSubsequence s (drop i w)
drop-later [] zero s h = h
drop-later [] (suc i) s h = h
drop-later (b ∷ w) zero s h = subsequence-later b s w h
drop-later (b ∷ w) (suc i) s h = drop-later w i s h

-- a run from a place on ends within the list
pub run-within : {X : Type 0} (xs : List X) (i n : ℕ) → i ≤ length xs → n ≤ length (drop i xs)
    → i + n ≤ length xs
run-within xs i n within ends = omega (arith, within, ends, length-drop i xs)

-- what is left of one response is in what is left of the other where both go on alike
alike-first : (n : ℕ) (w order : List NameBytes) → take n w ≡ take n order
    → IsSubsequence (drop n w) (drop n order) → IsSubsequence w order
alike-first zero w order e h = h
alike-first (suc n) [] order e h = tt
alike-first (suc n) (a ∷ w) [] e h = absurd cc
alike-first (suc n) (a ∷ w) (b ∷ order) e h =
    let first : a ≡ b = cc in
    let rest : take n w ≡ take n order = cc in
    inl (first, alike-first n w order rest h)

pub goes_on_alike : (w order : List NameBytes) (i j n : ℕ) → take n (drop i w) ≡ take n (drop j order)
    → IsSubsequence (drop (i + n) w) (drop (j + n) order) → IsSubsequence (drop i w) (drop j order)
goes_on_alike w order i j n e h =
    alike-first n (drop i w) (drop j order) e
    (subst (λ l. IsSubsequence l (drop n (drop j order))) (sym (drop-drop n i w))
    (subst (λ l. IsSubsequence (drop (i + n) w) l) (sym (drop-drop n j order)) h))

-- and where one place of the other is passed after that
pub passes : (w order : List NameBytes) (i j n : ℕ) → take n (drop i w) ≡ take n (drop j order)
    → IsSubsequence (drop (i + n) w) (drop (j + n + 1) order) → IsSubsequence (drop i w) (drop j order)
passes w order i j n e h =
    let next : j + n + 1 ≡ suc (j + n) = omega arith in
    goes_on_alike w order i j n e (drop-later order (j + n) (drop (i + n) w)
    (subst (λ m. IsSubsequence (drop (i + n) w) (drop m order)) next h))

pub all_found : (w order : List NameBytes) (i : ℕ) → length w ≤ i → IsSubsequence (drop i w) order
all_found w order i le = subst (λ l. IsSubsequence l order) (sym (drop_all i w le)) tt

module _ {X : Type 0} where
  Before-more : (a b : X) (xs ys : List X) → Before a b xs → Before a b (xs ++ ys)
  Before-more a b [] ys h = absurd h
  Before-more a b (x ∷ xs) ys (inl p) = inl (p.0, In-append_left b xs ys p.1)
  Before-more a b (x ∷ xs) ys (inr h) = inr (Before-more a b xs ys h)

  Before-last : (a z : X) (xs : List X) → In a xs → Before a z (xs ++ z ∷ [])
  Before-last a z [] i = absurd i
  Before-last a z (x ∷ xs) (inl e) = inl (e, In-append_right z xs (z ∷ []) (inl refl))
  Before-last a z (x ∷ xs) (inr i) = inr (Before-last a z xs i)

module _ (h : History) where
  pub none_kept : AreKeptOf h [] []
  none_kept = record { part = tt; covered = λ o i. absurd i }

  pub one_left_out : (all some : List Operation) (o p : Operation) → AreKeptOf h all some → In p some
      → IsSubsequence (response h o) (response h p) → AreKeptOf h (all ++ o ∷ []) some
  one_left_out all some o p k i s =
      record { part = part-skip o some all k.part; covered = λ q j. go q (In-append_cases q all (o ∷ []) j) }
    where
      go : (q : Operation) → In q all ⊎ In q (o ∷ []) → IsFoundIn h (all ++ o ∷ []) some q
      go q (inl j) = let c : IsFoundIn h all some q = k.covered q j in
          (c.0, c.1, elim c.2 [ inl e ↦ inl e | inr b ↦ inr (Before-more c.0 q all (o ∷ []) b) ], c.3)
      go q (inr (inl e)) = (
        p,
        i,
        inr
            (subst (λ z. Before p z (all ++ o ∷ [])) (sym e)
            (Before-last p o all (In-part p some all k.part i))),
        subst (λ z. IsSubsequence (response h z) (response h p)) (sym e) s,
      )
      go q (inr (inr j)) = absurd j

  pub one_kept : (all some : List Operation) (o : Operation) → AreKeptOf h all some
      → AreKeptOf h (all ++ o ∷ []) (some ++ o ∷ [])
  one_kept all some o k =
      record { part = part-keep o some all k.part; covered = λ q j. go q (In-append_cases q all (o ∷ []) j) }
    where
      go : (q : Operation) → In q all ⊎ In q (o ∷ []) → IsFoundIn h (all ++ o ∷ []) (some ++ o ∷ []) q
      go q (inl j) = let c : IsFoundIn h all some q = k.covered q j in (
        c.0,
        In-append_left c.0 some (o ∷ []) c.1,
        elim c.2 [
          | inl e ↦ inl e
          | inr b ↦
              inr (Before-more c.0 q all (o ∷ []) b)
        ],
        c.3,
      )
      go q (inr (inl e)) = (
        o,
        In-append_right o some (o ∷ []) (inl refl),
        inl (sym e),
        subst (λ z. IsSubsequence (response h z) (response h o)) (sym e)
            (subsequence-refl (response h o)),
      )
      go q (inr (inr j)) = absurd j

  pub kept_cover : (all some : List Operation) → AllPairs (λ f e. ComesBefore f e) all → AreKeptOf h all some
      → AreCovering h all some
  kept_cover all some order k = record {
    part = k.part;
    covered = λ o i. let c : IsFoundIn h all some o = k.covered o (In-from_Contains all o i) in (
      c.0,
      Contains-from_In some c.0 c.1,
      elim c.2 [
        | inl e ↦ inl e
        | inr b ↦
            inr (AllPairs-Before (λ f e. ComesBefore f e) all c.0 o order b)
      ],
      c.3,
    );
  }
