-- The name that a word is: as many bytes as may stand in one, before a space or the end.
use Rattle.std.proofs.Common.{◌≡◌, ◌∙◌, ℕ, suc, ◌+◌, ◌<◌, ◌≤◌, ◌++◌, Bool, true, false, cond, List, [], ◌∷◌}
use Rattle.std.proofs.Common.{length, take, drop, slice_get, sym, refl, ap, subst, arith}
use Rattle.std.specs.Prelude.{◌&&◌}
use Rattle.std.specs.List.{prefix_len, list_all}
use Rattle.std.proofs.lemmas.Bool.{eqb-true}
use Rattle.std.proofs.lemmas.List.{append-nil}
use Rattle.std.proofs.lemmas.List.Folds.{length-prefix_len}
use Rattle.events.specs.Names.{NameBytes, IsName, is_name_byte}
use Rattle.events.specs.Runs.{BeginsWith, may_follow}

-- the first that pass do pass
pub passing : (p : ℕ → Bool) (xs : List ℕ) → list_all p (take (prefix_len p xs) xs) ≡ true
passing p [] = refl
passing p (x ∷ xs) = by-first (p x) refl (passing p xs)
  where
    by-first : (b : Bool) → p x ≡ b → list_all p (take (prefix_len p xs) xs) ≡ true
        → list_all p (take (cond b (1 + prefix_len p xs) 0) (x ∷ xs)) ≡ true
    by-first true e rest = let one : 1 + prefix_len p xs ≡ suc (prefix_len p xs) = omega arith in
        rw one (rw (e, rest) refl)
    by-first false e rest = refl

-- a name that a word begins with, and that it ends with or that a space follows, is all that may stand in a
-- name
pub name-prefix : (a : NameBytes) (word : List ℕ) → list_all is_name_byte a ≡ true → take (length a) word ≡ a
    → may_follow (slice_get word (length a)) ≡ true → prefix_len is_name_byte word ≡ length a
name-prefix [] [] all same ends = refl
name-prefix [] (y ∷ ys) all same ends = let space : y ≡ 32 = eqb-true y 32 ends in rw space refl
name-prefix (x ∷ a) [] all same ends = absurd (cc)
name-prefix (x ∷ a) (y ∷ ys) all same ends =
    let first : y ≡ x = cc in
    let rest : take (length a) ys ≡ a = cc in
    let two = both (is_name_byte x) (list_all is_name_byte a) all in
    let more : prefix_len is_name_byte ys ≡ length a = name-prefix a ys two.1 rest ends in
    rw (first, two.0) (omega (arith, more))
  where
    both : (p q : Bool) → (p && q) ≡ true → (p ≡ true) × (q ≡ true)
    both true true e = (refl, refl)
    both true false e = absurd (cc)
    both false q e = absurd (cc)

-- a word behind a space
pub word-begins : (word : List ℕ) (a : NameBytes) → take (length a) word ≡ a
    → may_follow (slice_get word (length a)) ≡ true → BeginsWith (32 ∷ word) (a ∷ [])
word-begins word a same ends = record {
  same = rw (append-nil a) (ap (λ l. 32 ∷ l) same);
  ends = rw (append-nil a) ends;
}

pub begins-word : (word : List ℕ) (a : NameBytes) → BeginsWith (32 ∷ word) (a ∷ [])
    → (take (length a) word ≡ a) × (may_follow (slice_get word (length a)) ≡ true)
begins-word word a h =
    let same : take (length (a ++ [])) word ≡ a ++ [] = ap (drop 1) h.same in
    let ends : may_follow (slice_get word (length (a ++ []))) ≡ true = h.ends in (
      subst (λ l. take (length l) word ≡ l) (append-nil a) same,
      subst (λ (l : List ℕ). may_follow (slice_get word (length l)) ≡ true) (append-nil a) ends,
    )

-- so many bytes of a word are a name
pub some-name : (text word : List ℕ) (size : ℕ) → text ≡ 32 ∷ word → size ≡ prefix_len is_name_byte word
    → 0 < size → size ≤ 32 → may_follow (slice_get word size) ≡ true
    → (a : NameBytes) × (length a ≡ size) × IsName a × BeginsWith text (a ∷ [])
some-name text word size is count some few ends =
    let a : NameBytes = take (prefix_len is_name_byte word) word in
    let long : length a ≡ size = length-prefix_len is_name_byte word ∙ sym count in
    let name : IsName a =
    record {
      some_byte = omega (arith, long, some);
      few_bytes = omega (arith, long, few);
      each_byte = passing is_name_byte word;
    } in
    let same : take (length a) word ≡ a = ap (λ n. take n word) (length-prefix_len is_name_byte word) in
    let begins : BeginsWith (32 ∷ word) (a ∷ []) =
    word-begins word a same (ap (λ n. may_follow (slice_get word n)) long ∙ ends) in
    (a, long, name, subst (λ t. BeginsWith t (a ∷ [])) (sym is) begins)

-- the bytes of a name that a text begins with
pub name-there : (text word : List ℕ) (a : NameBytes) → text ≡ 32 ∷ word → IsName a → BeginsWith text (a ∷ [])
    → (prefix_len is_name_byte word ≡ length a) × (may_follow (slice_get word (length a)) ≡ true)
name-there text word a is name begins =
    let there = begins-word word a (subst (λ t. BeginsWith t (a ∷ [])) is begins) in
    (name-prefix a word name.each_byte there.0 there.1, there.1)
