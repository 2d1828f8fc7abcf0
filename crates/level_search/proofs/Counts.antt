-- Counts of looks: of a search under a lower bound, of several together, and how many at most.
use Rattle.std.proofs.Common.{◌≡◌, ℕ, zero, suc, ◌+◌, ◌*◌, ◌≤◌, Option, Some, None, List, [], ◌∷◌}
use Rattle.std.proofs.Common.{◌++◌, length, min, inl, inr, refl, sym, ap, ◌∙◌, subst, le_trans, arith}
use Rattle.std.specs.Prelude.{slice_index, sum_by}
use Rattle.std.proofs.Math.Nat.{add-mul}
use Rattle.level_search.specs.LayerSizes.{counted, layer_size}
use Rattle.level_search.specs.Looks.{AreCountsAt, HasLookedBy, IsAnswerFrom, IsCountAfter, IsCountBy, IsCountOf}
use Rattle.level_search.specs.Looks.{IsLastPart, IsListCount, with_answer}
use Rattle.level_search.specs.declared.tabled.sets.Sets.{Sets}
use Rattle.level_search.proofs.LayerSizes.{layer-up, sizes-within}

-- a lower bound is no less than a lower one
pub count-lower : (n : ℕ) (rows : List (List ℕ)) (s low low' : ℕ) (sets : Sets) (answer : Option ℕ)
    (count : ℕ) → low' ≤ low → IsCountOf n rows s low sets answer count
    → IsCountOf n rows s low' sets answer count
count-lower n rows s low low' sets answer count less is = (is.0, is.1, le_trans less is.2, is.3)

list-lower : (n : ℕ) (rows : List (List ℕ)) (low low' : ℕ) (answer : Option ℕ) (count : ℕ) → low' ≤ low
    → IsListCount n rows low answer count → IsListCount n rows low' answer count
list-lower n rows low low' (Some m) count less is = is
list-lower n rows low low' None count less is = (is.0, λ lt. is.1 (omega arith))

pub either-lower : (n : ℕ) (rows : List (List ℕ)) (s low low' : ℕ) (sets : Sets) (answer : Option ℕ)
    (count : ℕ) → low' ≤ low → IsCountBy n rows s low sets answer count
    → IsCountBy n rows s low' sets answer count
either-lower n rows s low low' sets answer count less (inl is) =
    inl (count-lower n rows s low low' sets answer count less is)
either-lower n rows s low low' sets answer count less (inr is) =
    inr (list-lower n rows low low' answer count less is)

pub looked-lower : (n : ℕ) (rows : List (List ℕ)) (s low low' : ℕ) (sets : Sets) (answer : Option ℕ)
    (old new : ℕ) → low' ≤ low → HasLookedBy n rows s low sets answer old new
    → HasLookedBy n rows s low' sets answer old new
looked-lower n rows s low low' sets answer old new less is =
    (is.0, either-lower n rows s low low' sets answer is.0 less is.1, is.2)

pub answer-lower : (rows : List (List ℕ)) (s low low' : ℕ) (answer : Option ℕ) → low' ≤ low
    → IsAnswerFrom rows s low answer → IsAnswerFrom rows s low' answer
answer-lower rows s low low' None less is = λ n cycle. le_trans less (is n cycle)
answer-lower rows s low low' (Some m) less is = is

pub counts-lower : (n : ℕ) (rows : List (List ℕ)) (low low' : ℕ) (sources places found : List ℕ) (count : ℕ)
    → low' ≤ low → AreCountsAt n rows low sources places found count
    → AreCountsAt n rows low' sources places found count
counts-lower n rows low low' sources [] found count less are = are
counts-lower n rows low low' sources (place ∷ places) found count less are = (
  are.0,
  are.1,
  are.2,
  are.3,
  are.4,
  answer-lower rows (slice_index sources place) low low' are.3 less are.5,
  either-lower n rows (slice_index sources place) low low' are.2 are.3 are.0 less are.6,
  counts-lower n rows low low' sources places are.4 are.1 less are.7,
  are.8,
  are.9,
)

-- one search more
pub counts-one : (n : ℕ) (rows : List (List ℕ)) (low : ℕ) (sources : List ℕ) (place : ℕ) (sets : Sets)
    (answer : Option ℕ) (one : ℕ) → IsAnswerFrom rows (slice_index sources place) low answer
    → IsCountBy n rows (slice_index sources place) low sets answer one
    → AreCountsAt n rows low sources (place ∷ []) (with_answer answer []) one
counts-one n rows low sources place sets answer one from is =
    (one, 0, sets, answer, [], from, is, (refl, refl), omega arith, refl)

answer-append : (answer : Option ℕ) (xs ys : List ℕ)
    → with_answer answer xs ++ ys ≡ with_answer answer (xs ++ ys)
answer-append None xs ys = refl
answer-append (Some m) xs ys = refl

pub counts-append : (n : ℕ) (rows : List (List ℕ)) (low : ℕ) (sources xs ys found later : List ℕ) (a b : ℕ)
    → AreCountsAt n rows low sources xs found a → AreCountsAt n rows low sources ys later b
    → AreCountsAt n rows low sources (xs ++ ys) (found ++ later) (a + b)
counts-append n rows low sources [] ys found later a b none are =
    let zero = none.1 in
    let sum : b ≡ a + b = omega (arith, zero) in
    subst (λ (l : List ℕ). AreCountsAt n rows low sources ys (l ++ later) (a + b)) (sym none.0)
    (subst (AreCountsAt n rows low sources ys later) sum are)
counts-append n rows low sources (x ∷ xs) ys found later a b one are = (
  one.0,
  one.1 + b,
  one.2,
  one.3,
  one.4 ++ later,
  one.5,
  one.6,
  counts-append n rows low sources xs ys one.4 later one.1 b one.7 are,
  (let sum = one.8 in omega (arith, sum)),
  ap (λ (l : List ℕ). l ++ later) one.9 ∙ answer-append one.3 one.4 later,
)

part-within : (n : ℕ) (rows : List (List ℕ)) (s low times : ℕ) (sets : Sets) (level : ℕ) (answer : Option ℕ)
    (part : ℕ) → IsLastPart n rows s low times sets level answer part → part ≤ layer_size n sets
part-within n rows s low times sets level (Some m) part is =
    let known = is.2.here.known in
    let up = layer-up sets (is.1 + 1) n (omega (arith, known)) in
    let part_is = is.3 in
    omega (arith, up, part_is)
part-within n rows s low times sets level None part (inl is) = let none = is.0 in omega (arith, none)
part-within n rows s low times sets level None part (inr (inl is)) = let all = is.0 in omega (arith, all)
part-within n rows s low times sets level None part (inr (inr is)) = let none = is.0 in omega (arith, none)

-- no search looks more than twice at the row of each element
pub count-most : (n : ℕ) (rows : List (List ℕ)) (s low times : ℕ) (sets : Sets) (answer : Option ℕ)
    (count : ℕ) → IsCountAfter n rows s low times sets answer count → count ≤ 2 * n
count-most n rows s low times sets answer count is =
    let part = part-within n rows s low times sets is.level answer is.part is.is_part in
    let sum = is.is_sum in
    omega (arith, sum, part, sizes-within n sets)

pub list-most : (n : ℕ) (rows : List (List ℕ)) (low : ℕ) (answer : Option ℕ) (count : ℕ)
    → IsListCount n rows low answer count → count ≤ sum_by (λ r. length r) rows + n
list-most n rows low (Some m) count is = is.0
list-most n rows low None count is = is.0

-- no search looks at more than this, where it is no less than either way may take
pub either-most : (n : ℕ) (rows : List (List ℕ)) (s low : ℕ) (sets : Sets) (answer : Option ℕ)
    (count most : ℕ) → 2 * n ≤ most → sum_by (λ r. length r) rows + n ≤ most
    → IsCountBy n rows s low sets answer count → count ≤ most
either-most n rows s low sets answer count most two all (inl is) =
    le_trans (count-most n rows s is.0 is.1 sets answer count is.3) two
either-most n rows s low sets answer count most two all (inr is) =
    le_trans (list-most n rows low answer count is) all

pub counts-most : (n : ℕ) (rows : List (List ℕ)) (low : ℕ) (sources places found : List ℕ) (count most : ℕ)
    → 2 * n ≤ most → sum_by (λ r. length r) rows + n ≤ most
    → AreCountsAt n rows low sources places found count → count ≤ length places * most
counts-most n rows low sources [] found count most two all are = let zero = are.1 in omega (arith, zero)
counts-most n rows low sources (place ∷ places) found count most two all are =
    let one =
    either-most n rows (slice_index sources place) low are.2 are.3 are.0 most two all are.6 in
    let others = counts-most n rows low sources places are.4 are.1 most two all are.7 in
    let sum = are.8 in
    omega (arith, one, others, sum, add-mul (length places) 1 most)

-- a count from 0 is the number of looks, up to the last count
pub counted-is : (k : ℕ) → counted k 0 ≡ min k 18446744073709551615
counted-is zero = refl
counted-is (suc k) = let h = counted-is k in omega (arith, h)

pub counted-together : (a b one other all : ℕ) → one ≡ counted a 0 → other ≡ counted b 0
    → all ≡ min (one + other) 18446744073709551615 → all ≡ counted (a + b) 0
counted-together a b one other all is_one is_other sum =
    let p = counted-is a in
    let q = counted-is b in
    let r = counted-is (a + b) in
    omega (arith, p, q, r, is_one, is_other, sum)
