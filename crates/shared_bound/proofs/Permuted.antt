-- Lists with the same numbers, each as often, and the numbers below a count.
use Rattle.std.proofs.Common.{◌≡◌, ℕ, zero, suc, ◌+◌, ◌<◌, ◌≤◌, List, [], ◌∷◌, ◌++◌, ap, subst, arith, ◌∙◌}
use Rattle.std.proofs.Common.{IsPermutation, All}
use Rattle.std.proofs.lemmas.List.Elements.{All-nil, All-cons}
use Rattle.std.proofs.lemmas.List.Sorted.{IsPermutation-refl, IsPermutation-cons, IsPermutation-trans}
use Rattle.std.proofs.lemmas.List.Sorted.{IsPermutation-sym, IsPermutation-middle}
use Rattle.std.specs.List.{range_with_len}
use mathlib.Core.Logic.{dite}
use native.Mathlib.Decide.{ℕ_discrete}
use Rattle.shared_bound.specs.Rule.{times}
use Rattle.shared_bound.proofs.Totals.{times_here, times_there, times-append}

-- a number that stands in the list can be moved to its front
record Pulled (x : ℕ) (ys : List ℕ) : Type 0 where
  rest : List ℕ
  moved : IsPermutation ys (x ∷ rest)
  counts : (z : ℕ) → times z ys ≡ times z (x ∷ rest)

pull : (x : ℕ) (ys : List ℕ) → 0 < times x ys → Pulled x ys
pull x [] h = absurd (omega arith)
pull x (y ∷ ys) h = dite (ℕ_discrete y x)
    (λ same. record {
      rest = ys;
      moved = subst (λ (z : ℕ). IsPermutation (y ∷ ys) (z ∷ ys)) same (IsPermutation-refl (y ∷ ys));
      counts = λ z. ap (λ (k : ℕ). times z (k ∷ ys)) same;
    })
    (λ other.
    let a = times_there x y ys other in
    let p = pull x ys (omega arith) in
    record {
      rest = y ∷ p.rest;
      moved = IsPermutation-trans _ _ _ (IsPermutation-cons y ys (x ∷ p.rest) p.moved)
          (IsPermutation-middle (y ∷ []) x p.rest);
      counts = λ z. let b = p.counts z in omega arith;
    })

-- two lists with the same numbers, each as often
pub permuted : (xs ys : List ℕ) → ((x : ℕ) → times x xs ≡ times x ys) → IsPermutation xs ys
permuted [] [] h = IsPermutation-refl []
permuted [] (y ∷ ys) h = let a = h y in let b = times_here y ys in absurd (omega arith)
permuted (x ∷ xs) ys h =
    let a = h x in
    let b = times_here x xs in
    let p = pull x ys (omega arith) in
    let rest = permuted xs p.rest (λ z. let c = h z in let d = p.counts z in omega arith) in
    IsPermutation-trans _ _ _ (IsPermutation-cons x xs p.rest rest) (IsPermutation-sym _ _ p.moved)

range_more : (a n : ℕ) → range_with_len a (suc n) ≡ range_with_len a n ++ (a + n) ∷ []
range_more a zero = let e : a ≡ a + 0 = omega arith in ap (λ (k : ℕ). k ∷ []) e
range_more a (suc n) =
    let e : (a + 1) + n ≡ a + suc n = omega arith in
    ap (λ (l : List ℕ). a ∷ l)
    (subst (λ (k : ℕ). range_with_len (a + 1) (suc n) ≡ range_with_len (a + 1) n ++ k ∷ []) e
    (range_more (a + 1) n))

-- the next number after those below c
pub times_next : (x c : ℕ) → times x (range_with_len 0 (c + 1))
    ≡ times x (range_with_len 0 c) + times x (c ∷ [])
times_next x c =
    let up : c + 1 ≡ suc c = omega arith in
    let zero_c : 0 + c ≡ c = omega arith in
    ap (λ (k : ℕ). times x (range_with_len 0 k)) up
    ∙ (ap (times x) (range_more 0 c) ∙ (times-append x (range_with_len 0 c) ((0 + c) ∷ [])
    ∙ ap (λ (k : ℕ). times x (range_with_len 0 c) + times x (k ∷ [])) zero_c))

range_below : (a n x : ℕ) → 0 < times x (range_with_len a n) → x < a + n
range_below a zero x h = absurd (omega arith)
range_below a (suc n) x h = dite (ℕ_discrete a x)
    (λ same. omega arith)
    (λ other.
    let e = times_there x a (range_with_len (a + 1) n) other in
    let b = range_below (a + 1) n x (omega arith) in
    omega arith)

-- where no number is in the list more often than among those below n, all are below n
pub all_below : (n : ℕ) (xs : List ℕ) → ((x : ℕ) → times x xs ≤ times x (range_with_len 0 n))
    → All (λ x. x < n) xs
all_below n [] h = All-nil (λ y. y < n)
all_below n (x ∷ xs) h =
    let here = h x in
    let a = times_here x xs in
    let low = range_below 0 n x (omega arith) in
    All-cons (λ y. y < n) x xs (omega arith) (all_below n xs (λ y. let b = h y in omega arith))
