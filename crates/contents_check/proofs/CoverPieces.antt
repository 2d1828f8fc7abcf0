-- Operations that cover those of one stretch, and then those of the next.
use Rattle.std.proofs.Common.{◌≡◌, ◌⊎◌, inl, inr, List, [], ◌∷◌, ◌++◌}
use Rattle.std.specs.Prelude.{Contains}
use Rattle.events.specs.Operation.{Operation, ComesBefore}
use Rattle.events.specs.History.{History}
use Rattle.events.specs.Operations.{response}
use Rattle.specification.specs.Orders.{IsSubsequence}
use Rattle.specification.proofs.Members.{In, In-append_left, In-append_right, In-append_cases}
use Rattle.specification.proofs.Members.{In-from_Contains, Contains-from_In}
use Rattle.element_numbers.specs.Covering.{IsPart, AreCovering}

module _ {X : Type 0} where
  part-later : (y : X) (zs ws : List X) → IsPart zs ws → IsPart zs (y ∷ ws)
  part-later y [] ws q = tt
  part-later y (z ∷ zs) ws q = inr q

  part-append : (xs ys zs ws : List X) → IsPart xs ys → IsPart zs ws → IsPart (xs ++ zs) (ys ++ ws)
  part-append [] [] zs ws p q = q
  part-append [] (y ∷ ys) zs ws p q = part-later y zs (ys ++ ws) (part-append [] ys zs ws tt q)
  part-append (x ∷ xs) [] zs ws p q = absurd p
  part-append (x ∷ xs) (y ∷ ys) zs ws (inl p) q = inl (p.0, part-append xs ys zs ws p.1 q)
  part-append (x ∷ xs) (y ∷ ys) zs ws (inr p) q = inr (part-append (x ∷ xs) ys zs ws p q)

module _ (h : History) where
  pub none-cover : AreCovering h [] []
  none-cover = record { part = tt; covered = λ o i. absurd (In-from_Contains [] o i) }

  -- what covers an operation of these among some is among more
  covered-among : (xs some more : List Operation) → AreCovering h xs some
      → ((p : Operation) → In p some → In p more) → (o : Operation) → In o xs
      → (p : Operation) × Contains more p × ((p ≡ o) ⊎ ComesBefore p o)
      × IsSubsequence (response h o) (response h p)
  covered-among xs some more are among o i = let c = are.covered o (Contains-from_In xs o i) in
      (c.0, Contains-from_In more c.0 (among c.0 (In-from_Contains some c.0 c.1)), c.2, c.3)

  pub covering-append : (xs ys some more : List Operation) → AreCovering h xs some → AreCovering h ys more
      → AreCovering h (xs ++ ys) (some ++ more)
  covering-append xs ys some more one other = record {
    part = part-append some xs more ys one.part other.part;
    covered = λ o i. elim (In-append_cases o xs ys (In-from_Contains (xs ++ ys) o i)) [
      | inl j ↦ covered-among xs some (some ++ more) one (λ p k. In-append_left p some more k) o j
      | inr j ↦ covered-among ys more (some ++ more) other (λ p k. In-append_right p some more k) o j
    ];
  }
