-- Rows cut from a list: one more at the end, and where each begins and ends.
use Rattle.std.proofs.Common.{◌≡◌, ◌≢◌, ℕ, zero, suc, ◌+◌, ◌-◌, ◌<◌, ◌≤◌, List, [], ◌∷◌, ◌++◌, length, take}
use Rattle.std.proofs.Common.{drop, get_or, refl, sym, ◌∙◌, ap, subst, arith, length-append, length-drop}
use Rattle.std.proofs.lemmas.List.{take-append-le, drop-append-le, take_all}
use Rattle.element_numbers.specs.Cuts.{cut, AreEnds, begin_of, rows_of, IsCut}
use Rattle.element_numbers.specs.declared.rows.Rows.{Rows}

empty_of : {X : Type 0} (xs : List X) → length xs ≡ 0 → xs ≡ []
empty_of [] e = refl
empty_of (x ∷ xs) e = absurd (omega arith)

take-front : {X : Type 0} (n : ℕ) (r : List X) → n ≡ length r → take n r ≡ r
take-front n r e = take_all n r (omega arith)

drop-end : {X : Type 0} (n : ℕ) (r : List X) → n ≡ length r → length (drop n r) ≡ 0
drop-end {X = X} n r e = omega (arith, length-drop n r)

-- one more row, which is the end of the list
pub cut-push : {X : Type 0} (from e : ℕ) (es : List ℕ) (xs r : List X) → AreEnds from es xs
    → e ≡ from + length xs + length r
    → cut from (es ++ e ∷ []) (xs ++ r) ≡ cut from es xs ++ r ∷ []
cut-push {X = X} from e [] xs r ends is =
    let none : xs ≡ [] = empty_of xs ends in
    let size : e - from ≡ length r = omega arith in
    ap (λ l. take (e - from) (l ++ r) ∷ []) none ∙ ap (λ l. l ∷ []) (take-front (e - from) r size)
cut-push {X = X} from e (e1 ∷ es) xs r ends is =
    let n : ℕ = e1 - from in
    let rest : e ≡ e1 + length (drop n xs) + length r = omega (arith, length-drop n xs, ends.0, ends.1) in
    ap (λ l. l ∷ cut e1 (es ++ e ∷ []) (drop n (xs ++ r))) (take-append-le n xs r ends.1)
    ∙ ap (λ l. take n xs ∷ cut e1 (es ++ e ∷ []) l) (drop-append-le n xs r ends.1)
    ∙ ap (λ l. take n xs ∷ l) (cut-push e1 e es (drop n xs) r ends.2 rest)

pub ends-push : {X : Type 0} (from e : ℕ) (es : List ℕ) (xs r : List X) → AreEnds from es xs
    → e ≡ from + length xs + length r
    → AreEnds from (es ++ e ∷ []) (xs ++ r)
ends-push {X = X} from e [] xs r ends is =
    let size : e - from ≡ length r = omega arith in
    let low : from ≤ e = omega arith in
    let high : e - from ≤ length (xs ++ r) = omega (arith, length-append xs r) in
    let all : e - from ≡ length (xs ++ r) = omega (arith, length-append xs r) in
    (low, high, drop-end (e - from) (xs ++ r) all)
ends-push {X = X} from e (e1 ∷ es) xs r ends is =
    let n : ℕ = e1 - from in
    let rest : e ≡ e1 + length (drop n xs) + length r = omega (arith, length-drop n xs, ends.0, ends.1) in
    let high : n ≤ length (xs ++ r) = omega (arith, length-append xs r, ends.1) in (
      ends.0,
      high,
      subst (λ l. AreEnds e1 (es ++ e ∷ []) l) (sym (drop-append-le n xs r ends.1))
          (ends-push e1 e es (drop n xs) r ends.2 rest),
    )

pub length-cut : {X : Type 0} (from : ℕ) (es : List ℕ) (xs : List X) → length (cut from es xs) ≡ length es
length-cut from [] xs = refl
length-cut from (e ∷ es) xs = ap suc (length-cut e es (drop (e - from) xs))

-- there are as many rows as ends
pub length-rows : {X : Type 0} (rows : Rows X) → length (rows_of rows) ≡ length rows.ends.items
length-rows rows = length-cut 0 rows.ends.items rows.items.items

-- where a row begins
pub begin-later : (from n : ℕ) (es : List ℕ) → n ≢ 0 → get_or es (n - 1) 0 ≡ begin_of from es n
begin-later from zero es later = absurd (later refl)
begin-later from (suc n) es later = let same : suc n - 1 ≡ n = omega arith in ap (λ k. get_or es k 0) same

-- where row l lies
pub record Lies {X : Type 0} (from : ℕ) (es : List ℕ) (xs : List X) (l : ℕ) : Type 0 where
  pub low : from ≤ begin_of from es l
  pub rising : begin_of from es l ≤ get_or es l 0
  pub within : get_or es l 0 - from ≤ length xs
  pub row_is : get_or (cut from es xs) l [] ≡ take (get_or es l 0 - begin_of from es l)
      (drop (begin_of from es l - from) xs)

drop-none : {X : Type 0} (n : ℕ) → drop {A = X} n [] ≡ []
drop-none zero = refl
drop-none (suc n) = refl

drop-drop : {X : Type 0} (n m : ℕ) (xs : List X) → drop n (drop m xs) ≡ drop (m + n) xs
drop-drop n zero xs = let same : n ≡ 0 + n = omega arith in ap (λ k. drop k xs) same
drop-drop n (suc m) [] = drop-none n ∙ sym (drop-none (suc m + n))
drop-drop n (suc m) (x ∷ xs) =
    drop-drop n m xs ∙ (let same : suc (m + n) ≡ suc m + n = omega arith in ap (λ k. drop k (x ∷ xs)) same)

begin-tail : (from e l : ℕ) (es : List ℕ) → begin_of e es l ≡ begin_of from (e ∷ es) (suc l)
begin-tail from e zero es = refl
begin-tail from e (suc l) es = refl

pub row-lies : {X : Type 0} (from : ℕ) (es : List ℕ) (xs : List X) (l : ℕ) → AreEnds from es xs
    → l < length es → Lies from es xs l
row-lies from [] xs l ends lt = absurd (omega arith)
row-lies from (e ∷ es) xs zero ends lt = record {
  low = omega arith;
  rising = ends.0;
  within = ends.1;
  row_is = let none : from - from ≡ 0 = omega arith in ap (λ k. take (e - from) (drop k xs)) (sym none);
}
row-lies {X = X} from (e ∷ es) xs (suc l) ends lt =
    let rest : Lies e es (drop (e - from) xs) l = row-lies e es (drop (e - from) xs) l ends.2 (omega arith) in
    let begin : begin_of e es l ≡ begin_of from (e ∷ es) (suc l) = begin-tail from e l es in
    let b : ℕ = begin_of e es l in
    let end : ℕ = get_or es l 0 in
    let low : e ≤ b = rest.low in
    let size : length (drop (e - from) xs) ≡ length xs - (e - from) = length-drop (e - from) xs in
    let within : end - e ≤ length (drop (e - from) xs) = rest.within in
    let rising : b ≤ end = rest.rising in
    let first : from ≤ e = ends.0 in
    let inside : e - from ≤ length xs = ends.1 in
    let sums : (e - from) + (b - e) ≡ b - from = omega arith in
    record {
      low = subst (λ k. from ≤ k) begin (omega arith);
      rising = subst (λ k. k ≤ end) begin rising;
      within = omega arith;
      row_is =
          rest.row_is
          ∙ ap (λ l. take (end - b) l) (drop-drop (b - e) (e - from) xs ∙ ap (λ k. drop k xs) sums)
          ∙ ap (λ k. take (end - k) (drop (k - from) xs)) begin;
    }

-- the row that was begun is ended
pub row-ended : {X : Type 0} (old new : Rows X) (r : List X) → IsCut old
    → new.items.items ≡ old.items.items ++ r
    → new.ends.items ≡ old.ends.items ++ (length new.items.items) ∷ []
    → (rows_of new ≡ rows_of old ++ r ∷ []) × IsCut new
row-ended {X = X} old new r whole items ends =
    let e : ℕ = length new.items.items in
    let all : e ≡ 0 + length old.items.items + length r =
    omega (arith, ap length items, length-append old.items.items r) in
    let xs : List X = old.items.items in
    let es : List ℕ = old.ends.items in (
      ap (λ l. cut 0 l new.items.items) ends ∙ ap (λ l. cut 0 (es ++ e ∷ []) l) items
          ∙ cut-push 0 e es xs r whole all,
      subst (λ l. AreEnds 0 l new.items.items) (sym ends)
          (subst (λ (l : List X). AreEnds 0 (es ++ e ∷ []) l) (sym items) (ends-push 0 e es xs r whole all)),
    )
