-- Lists in rising order of numbers: two with the same members are one. And the first place of a list that
-- passes a test.
use Rattle.std.proofs.Common.{◌≡◌, ℕ, suc, ◌<◌, ◌≤◌, ◌⊎◌, inl, inr, Bool, true, Some, List, [], ◌∷◌, map}
use Rattle.std.proofs.Common.{length, get_or, refl, sym, ◌∙◌, arith, ap}
use Rattle.std.specs.Prelude.{AllPairs, not, position, slice_get, unwrap_or}
use Rattle.std.specs.List.{position_or_len}
use Rattle.std.specs.List.Sorted.{IsStrictlyIncreasing}
use Rattle.std.proofs.lemmas.Bool.{cases_lt, lt-ltb, le-ltb, not-false, true≢false}
use Rattle.std.proofs.lemmas.List.Kept.{AllPairs-from_increasing}
use Rattle.std.proofs.lemmas.List.Sums.{prefix_len-le-length, prefix_len_stops, fails_before_first}
use Rattle.std.proofs.lemmas.Option.{slice_get-get_or, get_or_from_slice_get}
use Rattle.specification.proofs.Members.{In, In-map, AllPairs-Before}
use Rattle.specification.proofs.OperationNames.{Rising}

rising_from_pairs : (ns : List ℕ) → AllPairs (λ a b. a < b) ns → Rising (λ a b. a < b) ns
rising_from_pairs [] all = tt
rising_from_pairs (n ∷ ns) all = (
  λ y i. AllPairs-Before (λ (a b : ℕ). a < b) (n ∷ ns) n y all (inl (refl, i)),
  rising_from_pairs ns (λ i j d lt within. all (suc i) (suc j) d (omega arith) (omega arith)),
)

module _ {X : Type 0} (f : X → ℕ) where
  rising_from_map : (xs : List X) → Rising (λ a b. a < b) (map f xs) → Rising (λ a b. f a < f b) xs
  rising_from_map [] r = tt
  rising_from_map (x ∷ xs) r = (λ y i. r.0 (f y) (In-map f y xs i), rising_from_map xs r.1)

  pub rising_members : (xs : List X) → IsStrictlyIncreasing (map f xs) → Rising (λ a b. f a < f b) xs
  rising_members xs up =
      rising_from_map xs (rising_from_pairs (map f xs) (AllPairs-from_increasing (map f xs) up))

  -- two lists with the same members, each in rising order, are one
  pub one_rising : (xs ys : List X) → Rising (λ a b. f a < f b) xs → Rising (λ a b. f a < f b) ys
      → ((z : X) → In z xs → In z ys) → ((z : X) → In z ys → In z xs) → xs ≡ ys
  one_rising [] [] r s to from = refl
  one_rising [] (y ∷ ys) r s to from = absurd (from y (inl refl))
  one_rising (x ∷ xs) [] r s to from = absurd (to x (inl refl))
  one_rising (x ∷ xs) (y ∷ ys) r s to from =
      go (one_rising xs ys r.1 s.1) (head (to x (inl refl)) (from y (inl refl)))
    where
      head : In x (y ∷ ys) → In y (x ∷ xs) → x ≡ y
      head (inl e) j = e
      head (inr i) (inl e) = sym e
      head (inr i) (inr j) = let more : f y < f x = s.0 x i in let less : f x < f y = r.0 y j in
          absurd (omega arith)

      go : (((z : X) → In z xs → In z ys) → ((z : X) → In z ys → In z xs) → xs ≡ ys) → x ≡ y → x ∷ xs ≡ y ∷ ys
      go rest same =
          let there : (z : X) → In z xs → In z ys = λ z i. elim (to z (inr i)) [
            | inl e ↦
                (let less : f x < f z = r.0 z i in let at : f z ≡ f x = ap f (e ∙ sym same) in
                absurd (omega arith))
            | inr j ↦ j
          ] in
          let back : (z : X) → In z ys → In z xs = λ z i. elim (from z (inr i)) [
            | inl e ↦
                (let less : f y < f z = s.0 z i in let at : f z ≡ f y = ap f (e ∙ same) in
                absurd (omega arith))
            | inr j ↦ j
          ] in
          let tail : xs ≡ ys = rest there back in
          λ i. same i ∷ tail i

pub same_places : {X : Type 0} (xs ys : List X) → length xs ≡ length ys
    → ((n : ℕ) (x y : X) → slice_get xs n ≡ Some x → slice_get ys n ≡ Some y → x ≡ y) → xs ≡ ys
same_places [] [] e each = refl
same_places [] (y ∷ ys) e each = absurd (omega arith)
same_places (x ∷ xs) [] e each = absurd (omega arith)
same_places (x ∷ xs) (y ∷ ys) e each =
    let head : x ≡ y = each 0 x y refl refl in
    let tail : xs ≡ ys = same_places xs ys (omega arith) (λ n a b p q. each (suc n) a b p q) in
    λ i. head i ∷ tail i

-- the place of the first that passes; the length where none does
module _ {X : Type 0} (p : X → Bool) (xs : List X) (k : ℕ) (count : length xs ≡ k) where
  abbrev pub first_place : ℕ
  first_place = unwrap_or (position p xs) k

  first-is : first_place ≡ position_or_len p xs
  first-is = go (cases_lt (position_or_len p xs) (length xs))
    where
      go : (position_or_len p xs < length xs) ⊎ (length xs ≤ position_or_len p xs)
          → first_place ≡ position_or_len p xs
      go (inl lt) = rw (lt-ltb (position_or_len p xs) (length xs) lt) refl
      go (inr ge) = let most : position_or_len p xs ≤ length xs = prefix_len-le-length (λ x. not (p x)) xs in
          rw (le-ltb (position_or_len p xs) (length xs) ge) (omega arith)

  pub first-most : first_place ≤ k
  first-most = let most : position_or_len p xs ≤ length xs = prefix_len-le-length (λ x. not (p x)) xs in
      let is : first_place ≡ position_or_len p xs = first-is in omega arith

  pub first-passes : (d : X) → first_place < k → (x : X) × (slice_get xs first_place ≡ Some x) × (p x ≡ true)
  first-passes d lt =
      let is : first_place ≡ position_or_len p xs = first-is in
      let within : position_or_len p xs < length xs = omega arith in
      let at : slice_get xs (position_or_len p xs) ≡ Some (get_or xs (position_or_len p xs) d) =
      slice_get-get_or xs (position_or_len p xs) d within in (
        get_or xs (position_or_len p xs) d,
        ap (λ n. slice_get xs n) is ∙ at,
        not-false (p (get_or xs (position_or_len p xs) d)) (prefix_len_stops (λ x. not (p x)) xs d within),
      )

  pub first-least : (n : ℕ) (x : X) → slice_get xs n ≡ Some x → p x ≡ true → first_place ≤ n
  first-least n x at passes = go (cases_lt n (position_or_len p xs))
    where
      go : (n < position_or_len p xs) ⊎ (position_or_len p xs ≤ n) → first_place ≤ n
      go (inl lt) =
          absurd (true≢false (sym passes ∙ ap p (sym (get_or_from_slice_get xs n x x at))
          ∙ fails_before_first p xs n x lt))
      go (inr ge) = let is : first_place ≡ position_or_len p xs = first-is in omega arith
