-- A part of a list: its members stand there, what rises there rises in it, its sums and its length are no
-- greater, and so of what is made of its members; and one member more at the end.
use Rattle.std.proofs.Common.{ℕ, ◌≤◌, inl, inr, List, [], ◌∷◌, ◌++◌, length, map, refl, ◌∙◌, sym, ap, subst}
use Rattle.std.proofs.Common.{arith}
use Rattle.std.specs.Prelude.{sum_by}
use Rattle.std.proofs.lemmas.List.Sums.{sum_by-cons}
use Rattle.specification.proofs.Members.{In}
use Rattle.specification.proofs.OperationNames.{Rising}
use Rattle.element_numbers.specs.Covering.{IsPart}

module _ {X : Type 0} where
  pub part-all : (xs : List X) → IsPart xs xs
  part-all [] = tt
  part-all (x ∷ xs) = inl (refl, part-all xs)

  pub In-part : (x : X) (xs ys : List X) → IsPart xs ys → In x xs → In x ys
  In-part x [] ys p i = absurd i
  In-part x (a ∷ xs) [] p i = absurd p
  In-part x (a ∷ xs) (b ∷ ys) (inl p) (inl e) = inl (e ∙ p.0)
  In-part x (a ∷ xs) (b ∷ ys) (inl p) (inr i) = inr (In-part x xs ys p.1 i)
  In-part x (a ∷ xs) (b ∷ ys) (inr p) i = inr (In-part x (a ∷ xs) ys p i)

  pub Rising-part : (R : X → X → Type 0) (xs ys : List X) → IsPart xs ys → Rising R ys → Rising R xs
  Rising-part R [] ys p r = tt
  Rising-part R (x ∷ xs) [] p r = absurd p
  Rising-part R (x ∷ xs) (y ∷ ys) (inl p) r =
      (λ z i. subst (λ w. R w z) (sym p.0) (r.0 z (In-part z xs ys p.1 i)), Rising-part R xs ys p.1 r.1)
  Rising-part R (x ∷ xs) (y ∷ ys) (inr p) r = Rising-part R (x ∷ xs) ys p r.1

  -- one member more at the end, which the part has too or leaves out
  pub part-skip : (z : X) (xs ys : List X) → IsPart xs ys → IsPart xs (ys ++ z ∷ [])
  part-skip z [] ys p = tt
  part-skip z (x ∷ xs) [] p = absurd p
  part-skip z (x ∷ xs) (y ∷ ys) (inl p) = inl (p.0, part-skip z xs ys p.1)
  part-skip z (x ∷ xs) (y ∷ ys) (inr p) = inr (part-skip z (x ∷ xs) ys p)

  last-part : (z : X) (ys : List X) → IsPart (z ∷ []) (ys ++ z ∷ [])
  last-part z [] = inl (refl, tt)
  last-part z (y ∷ ys) = inr (last-part z ys)

  pub part-keep : (z : X) (xs ys : List X) → IsPart xs ys → IsPart (xs ++ z ∷ []) (ys ++ z ∷ [])
  part-keep z [] ys p = last-part z ys
  part-keep z (x ∷ xs) [] p = absurd p
  part-keep z (x ∷ xs) (y ∷ ys) (inl p) = inl (p.0, part-keep z xs ys p.1)
  part-keep z (x ∷ xs) (y ∷ ys) (inr p) = inr (part-keep z (x ∷ xs) ys p)

  pub sum-part : (w : X → ℕ) (xs ys : List X) → IsPart xs ys → sum_by w xs ≤ sum_by w ys
  sum-part w [] ys p = omega arith
  sum-part w (x ∷ xs) [] p = absurd p
  sum-part w (x ∷ xs) (y ∷ ys) (inl p) =
      omega (arith, sum-part w xs ys p.1, sum_by-cons w x xs, sum_by-cons w y ys, ap w p.0)
  sum-part w (x ∷ xs) (y ∷ ys) (inr p) = omega (arith, sum-part w (x ∷ xs) ys p, sum_by-cons w y ys)

  pub length-part : (xs ys : List X) → IsPart xs ys → length xs ≤ length ys
  length-part [] ys p = omega arith
  length-part (x ∷ xs) [] p = absurd p
  length-part (x ∷ xs) (y ∷ ys) (inl p) = omega (arith, length-part xs ys p.1)
  length-part (x ∷ xs) (y ∷ ys) (inr p) = omega (arith, length-part (x ∷ xs) ys p)

pub part-map : {X Y : Type 0} (f : X → Y) (xs ys : List X) → IsPart xs ys → IsPart (map f xs) (map f ys)
part-map f [] ys p = tt
part-map f (x ∷ xs) [] p = absurd p
part-map f (x ∷ xs) (y ∷ ys) (inl p) = inl (ap f p.0, part-map f xs ys p.1)
part-map f (x ∷ xs) (y ∷ ys) (inr p) = inr (part-map f (x ∷ xs) ys p)
