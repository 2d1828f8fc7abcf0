-- The element at a place of a list: in a longer list, in a part of it, past a write, within the list and past
-- its end.
use Rattle.std.proofs.Common.{◌≡◌, ◌≢◌, ◌⊎◌, inl, inr, get_or, set, ℕ, zero, suc, ◌+◌, ◌-◌, ◌<◌, ◌≤◌, Some}
use Rattle.std.proofs.Common.{None, List, [], ◌∷◌, ◌++◌, length, take, drop, refl, sym, ap, ◌∙◌, arith}
use Rattle.std.specs.Prelude.{slice_get}
use Rattle.events.specs.Operations.{nth}

pub slice_get-first : {X : Type 0} (xs ys : List X) (i : ℕ) (x : X) → slice_get xs i ≡ Some x
    → slice_get (xs ++ ys) i ≡ Some x
slice_get-first [] ys i x e = absurd cc
slice_get-first (y ∷ xs) ys zero x e = e
slice_get-first (y ∷ xs) ys (suc i) x e = slice_get-first xs ys i x e

pub slice_get-last : {X : Type 0} (xs : List X) (x : X) → slice_get (xs ++ x ∷ []) (length xs) ≡ Some x
slice_get-last [] x = refl
slice_get-last (y ∷ xs) x = slice_get-last xs x

-- in a list's first elements, and from one on
pub take-get : {X : Type 0} (n k : ℕ) (xs : List X) → k < n → slice_get (take n xs) k ≡ slice_get xs k
take-get zero k xs h = absurd (omega (arith, h))
take-get (suc n) k [] h = refl
take-get (suc n) zero (x ∷ xs) h = refl
take-get (suc n) (suc k) (x ∷ xs) h = take-get n k xs (omega (arith, h))

pub drop-get : {X : Type 0} (s k : ℕ) (xs : List X) → slice_get (drop s xs) k ≡ slice_get xs (s + k)
drop-get zero k xs = let same : k ≡ 0 + k = omega arith in ap (slice_get xs) same
drop-get (suc s) k [] = refl
drop-get (suc s) k (x ∷ xs) = let same : suc (s + k) ≡ suc s + k = omega arith in
    drop-get s k xs ∙ ap (slice_get (x ∷ xs)) same

-- what stands at a place of a list in which one place was written
pub set-slice_get : {X : Type 0} (xs : List X) (i : ℕ) (v : X) (r : ℕ) (x : X)
    → slice_get (set xs i v) r ≡ Some x →
    ((r ≡ i) × (x ≡ v)) ⊎ ((r ≢ i) × (slice_get xs r ≡ Some x))
set-slice_get [] i v r x e = absurd cc
set-slice_get (y ∷ xs) zero v zero x e = inl (refl, cc)
set-slice_get (y ∷ xs) zero v (suc r) x e = inr ((λ h. omega (arith, h)), e)
set-slice_get (y ∷ xs) (suc i) v zero x e = inr ((λ h. omega (arith, h)), e)
set-slice_get {X} (y ∷ xs) (suc i) v (suc r) x e = go (set-slice_get xs i v r x e)
  where
    go : ((r ≡ i) × (x ≡ v)) ⊎ ((r ≢ i) × (slice_get xs r ≡ Some x))
        → ((suc r ≡ suc i) × (x ≡ v)) ⊎ ((suc r ≢ suc i) × (slice_get (y ∷ xs) (suc r) ≡ Some x))
    go (inl h) = inl (ap suc h.0, h.1)
    go (inr h) = inr ((λ q. h.0 (omega (arith, q))), h.1)

-- nothing is found past the end alone
pub slice_get-none : {X : Type 0} (xs : List X) (i : ℕ) → slice_get xs i ≡ None → length xs ≤ i
slice_get-none [] i e = omega arith
slice_get-none (x ∷ xs) zero e = absurd cc
slice_get-none (x ∷ xs) (suc i) e = let rest : length xs ≤ i = slice_get-none xs i e in omega arith

-- the n-th, from 1, is the one at n - 1
pub nth-behind : {X : Type 0} (xs : List X) (n : ℕ) → 1 ≤ n → nth xs n ≡ slice_get xs (n - 1)
nth-behind xs zero le = absurd (omega arith)
nth-behind xs (suc i) le = let same : i ≡ suc i - 1 = omega arith in ap (slice_get xs) same

-- what stands in a list with one more element is that one, at the end, or stood there before
pub push-slice_get : {X : Type 0} (xs : List X) (x y : X) (r : ℕ) → slice_get (xs ++ x ∷ []) r ≡ Some y
    → (slice_get xs r ≡ Some y) ⊎ ((r ≡ length xs) × (y ≡ x))
push-slice_get [] x y zero e = inr (refl, cc)
push-slice_get [] x y (suc r) e = absurd cc
push-slice_get (z ∷ xs) x y zero e = inl e
push-slice_get {X} (z ∷ xs) x y (suc r) e = go (push-slice_get xs x y r e)
  where
    go : (slice_get xs r ≡ Some y) ⊎ ((r ≡ length xs) × (y ≡ x))
        → (slice_get (z ∷ xs) (suc r) ≡ Some y) ⊎ ((suc r ≡ suc (length xs)) × (y ≡ x))
    go (inl h) = inl h
    go (inr h) = inr (ap suc h.0, h.1)

-- the element at a place within a list
pub slice_get-within : {X : Type 0} (xs : List X) (i : ℕ) (x : X) → i < length xs → x ≡ get_or xs i x
    → slice_get xs i ≡ Some x
slice_get-within [] i x lt e = absurd (omega arith)
slice_get-within (y ∷ xs) zero x lt e = ap (λ z. Some z) (sym e)
slice_get-within (y ∷ xs) (suc i) x lt e = slice_get-within xs i x (omega arith) e

-- what stands at the place that was written
pub set-same : {X : Type 0} (xs : List X) (i : ℕ) (v x : X) → slice_get (set xs i v) i ≡ Some x → x ≡ v
set-same {X} xs i v x e = go (set-slice_get xs i v i x e)
  where
    go : ((i ≡ i) × (x ≡ v)) ⊎ ((i ≢ i) × (slice_get xs i ≡ Some x)) → x ≡ v
    go (inl h) = h.1
    go (inr h) = absurd (h.0 refl)
