-- Among names that differ, the number of a name is its place, and a name has it as long as it stands there.
use Rattle.std.proofs.Common.{◌≡◌, ◌≢◌, ℕ, zero, suc, ◌<◌, ◌≤◌, inl, inr, Bool, false, cond, Option, Some}
use Rattle.std.proofs.Common.{None, List, [], ◌∷◌, ◌++◌, length, take, drop, get_or, refl, sym, ◌∙◌, ap}
use Rattle.std.proofs.Common.{subst, arith}
use Rattle.std.specs.Prelude.{bytes_eq, nat_lt, unwrap_or, slice_get}
use Rattle.std.specs.List.{position_or_len}
use Rattle.std.specs.Cmp.Lexicographic.{bytes_decides}
use Rattle.std.proofs.lemmas.Bool.{lt-ltb, le-ltb, false_from_ne_true}
use Rattle.std.proofs.lemmas.List.{take-append-drop}
use Rattle.std.proofs.lemmas.List.Quantifiers.{position-Some}
use Rattle.std.proofs.lemmas.Option.{slice_get-get_or, slice_get_within}
use Rattle.events.specs.Names.{NameBytes}
use Rattle.events.proofs.Places.{slice_get-first, slice_get-last}
use Rattle.specification.specs.Elements.{number_in}
use Rattle.specification.proofs.Members.{In, Once, In-from_place, place_of_In, In-append_cases}
use Rattle.specification.proofs.Members.{In-append_left}
use Rattle.specification.proofs.Shown.{same_name}

found-here : (a x : NameBytes) (xs : List NameBytes) → a ≡ x → position_or_len (bytes_eq a) (x ∷ xs) ≡ 0
found-here a x xs e = rw ((bytes_decides a x).1 e) refl

found-later : (a x : NameBytes) (xs : List NameBytes) → a ≢ x
    → position_or_len (bytes_eq a) (x ∷ xs) ≡ suc (position_or_len (bytes_eq a) xs)
found-later a x xs n = let no : bytes_eq a x ≡ false =
    false_from_ne_true (bytes_eq a x) (λ t. n ((bytes_decides a x).0 t)) in rw no (omega arith)

found-at : (xs : List NameBytes) (i : ℕ) (a : NameBytes) → Once xs → slice_get xs i ≡ Some a
    → position_or_len (bytes_eq a) xs ≡ i
found-at [] i a once at = absurd cc
found-at (x ∷ xs) zero a once at = found-here a x xs (let e : x ≡ a = cc in sym e)
found-at (x ∷ xs) (suc i) a once at =
    found-later a x xs (λ e. once.0 (subst (λ z. In z xs) e (In-from_place xs i a at)))
    ∙ ap suc (found-at xs i a once.1 at)

-- the name at a place has the place's number
pub number-at : (xs : List NameBytes) (i : ℕ) (a : NameBytes) → Once xs → slice_get xs i ≡ Some a
    → number_in xs a ≡ Some i
number-at xs i a once at =
    let place : position_or_len (bytes_eq a) xs ≡ i = found-at xs i a once at in
    let within : i < length xs = slice_get_within xs i a at in
    ap (λ n. cond (nat_lt n (length xs)) (Some n) None) place
    ∙ ap (λ (b : Bool). cond b (Some i) None) (lt-ltb i (length xs) within)

-- and the number of a name is a place where it stands
pub name-at : (xs : List NameBytes) (i : ℕ) (a : NameBytes) → number_in xs a ≡ Some i
    → slice_get xs i ≡ Some a
name-at xs i a number =
    let found = position-Some (bytes_eq a) xs i a number in
    slice_get-get_or xs i a found.0 ∙ ap Some (sym ((bytes_decides a (get_or xs i a)).0 found.1))

none-found : (xs : List NameBytes) (a : NameBytes) → (In a xs → ⊥)
    → position_or_len (bytes_eq a) xs ≡ length xs
none-found [] a absent = refl
none-found (x ∷ xs) a absent =
    found-later a x xs (λ e. absent (inl e)) ∙ ap suc (none-found xs a (λ i. absent (inr i)))

pub number-none : (xs : List NameBytes) (a : NameBytes) → (In a xs → ⊥) → number_in xs a ≡ None
number-none xs a absent =
    ap (λ n. cond (nat_lt n (length xs)) (Some n) None) (none-found xs a absent)
    ∙ ap (λ (b : Bool). cond b (Some (length xs)) None) (let same : length xs ≤ length xs = omega arith in
    le-ltb (length xs) (length xs) same)

-- a number, or the count for a name that is not among them, is at most the count
pub number-most : (xs : List NameBytes) (a : NameBytes) → unwrap_or (number_in xs a) (length xs) ≤ length xs
number-most xs a = go (number_in xs a) refl
  where
    go : (n : Option ℕ) → number_in xs a ≡ n → unwrap_or n (length xs) ≤ length xs
    go (Some i) e = let found = position-Some (bytes_eq a) xs i a e in omega (arith, found.0)
    go None e = omega arith

-- a member has a number
pub number-some : (xs : List NameBytes) (a : NameBytes) → Once xs → In a xs
    → (i : ℕ) × (slice_get xs i ≡ Some a) × (number_in xs a ≡ Some i)
number-some xs a once i = let p = place_of_In xs a i in (p.0, p.2, number-at xs p.0 a once p.2)

pub Once-front : {X : Type 0} (xs ys : List X) → Once (xs ++ ys) → Once xs
Once-front [] ys once = tt
Once-front (x ∷ xs) ys once = (λ i. once.0 (In-append_left x xs ys i), Once-front xs ys once.1)

pub Once-take : {X : Type 0} (n : ℕ) (xs : List X) → Once xs → Once (take n xs)
Once-take n xs once = Once-front (take n xs) (drop n xs) (subst Once (sym (take-append-drop n xs)) once)

-- with one more name, which has their count as its number
pub number-push : (xs : List NameBytes) (x a : NameBytes) → Once (xs ++ x ∷ [])
    → number_in (xs ++ x ∷ []) a ≡ cond (bytes_eq x a) (Some (length xs)) (number_in xs a)
number-push xs x a once = go (same_name x a)
  where
    other : (x ≡ a → ⊥) → (n : Option ℕ) → number_in xs a ≡ n → number_in (xs ++ x ∷ []) a ≡ number_in xs a
    other differs (Some i) e =
        number-at (xs ++ x ∷ []) i a once (slice_get-first xs (x ∷ []) i a (name-at xs i a e)) ∙ sym e
    other differs None e =
        number-none (xs ++ x ∷ []) a (λ i. elim (In-append_cases a xs (x ∷ []) i) [
          | inl j ↦ let s = number-some xs a (Once-front xs (x ∷ []) once) j in
              let bad : None ≡ Some s.0 = sym e ∙ s.2 in cc
          | inr j ↦ elim j [ inl q ↦ differs (sym q) | inr z ↦ z ]
        ]) ∙ sym e

    go : Dec (x ≡ a) → number_in (xs ++ x ∷ []) a ≡ cond (bytes_eq x a) (Some (length xs)) (number_in xs a)
    go (yes e) =
        number-at (xs ++ x ∷ []) (length xs) a once (slice_get-last xs x ∙ ap Some e)
        ∙ sym (ap (λ (b : Bool). cond b (Some (length xs)) (number_in xs a)) ((bytes_decides x a).1 e))
    go (no n) =
        other n (number_in xs a) refl
        ∙ sym (ap (λ (b : Bool). cond b (Some (length xs)) (number_in xs a))
        (false_from_ne_true (bytes_eq x a) (λ t. n ((bytes_decides x a).0 t))))
