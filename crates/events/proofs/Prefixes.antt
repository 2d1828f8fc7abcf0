-- How many of the first items pass a test, by the bits of those that do not.
use Rattle.std.proofs.Common.{◌≡◌, ◌≢◌, ◌∙◌, ℕ, suc, ◌+◌, ◌-◌, ◌<◌, ◌≤◌, ◌++◌, Bool, true, false, cond, List}
use Rattle.std.proofs.Common.{[], ◌∷◌, length, map, take, drop, replicate, sym, refl, ap, ap₂, arith, inl}
use Rattle.std.proofs.Common.{inr, eqb}
use Rattle.std.specs.Prelude.{not}
use Rattle.std.specs.List.{prefix_len}
use Rattle.std.specs.Simd.Lanes.{mask_l}
use lib.Count.{count_trailing_zeros}
use Rattle.std.proofs.lemmas.Bool.{cases_lt, false_from_ne_true, eqb-true, eq-eqb}
use Rattle.std.proofs.lemmas.List.{take-append-drop, length-append, drop-replicate, take_all}
use Rattle.std.proofs.lemmas.List.Folds.{prefix_len-append}
use Rattle.std.proofs.lemmas.List.Sums.{prefix_len-le-length}
use Rattle.std.proofs.lemmas.Simd.{trailing_mask_l, leading_from_mask_l, length-chunk, length-replicate}

module _ (p : ℕ → Bool) where
  abbrev fails : ℕ → Bool
  fails = λ x. not (p x)

  two-nots : (b : Bool) → not (not b) ≡ b
  two-nots true = refl
  two-nots false = refl

  same-count : (xs : List ℕ) → prefix_len (λ x. not (not (p x))) xs ≡ prefix_len p xs
  same-count [] = refl
  same-count (x ∷ xs) = ap₂ (λ b n. cond b (1 + n) 0) (two-nots (p x)) (same-count xs)

  -- no bit is set: all pass
  pub all-pass : (xs : List ℕ) → mask_l (map fails xs) ≡ 0 → prefix_len p xs ≡ length xs
  all-pass xs e = sym (same-count xs) ∙ leading_from_mask_l fails xs e

  step : (b : Bool) (n m : ℕ) → cond b (1 + n) 0 ≡ suc m → (b ≡ true) × (n ≡ m)
  step true n m e = (refl, omega (arith, e))
  step false n m e = absurd (omega (arith, e))

  pass-all : (xs : List ℕ) → prefix_len p xs ≡ length xs → mask_l (map fails xs) ≡ 0
  pass-all [] e = refl
  pass-all (x ∷ xs) e =
      let here = step (p x) (prefix_len p xs) (length xs) e in
      rw (here.0, pass-all xs here.1) refl

  -- a bit is set: the lowest is that of the first which does not pass
  pub first-fails : (xs : List ℕ) → length xs ≤ 64 → mask_l (map fails xs) ≢ 0
      → (count_trailing_zeros 64 (mask_l (map fails xs)) ≡ prefix_len p xs) × (prefix_len p xs < length xs)
  first-fails xs few some = (trailing_mask_l fails 64 xs few (omega (arith, some)) ∙ same-count xs, less)
    where
      less : prefix_len p xs < length xs
      less = elim (cases_lt (prefix_len p xs) (length xs)) [
        | inl h ↦ h
        | inr h ↦ absurd (some (pass-all xs (omega (arith, h, prefix_len-le-length p xs))))
      ]

  -- all of the first part pass, or one of it does not
  longer : (xs ys : List ℕ) → prefix_len p xs ≡ length xs → prefix_len p (xs ++ ys)
      ≡ length xs + prefix_len p ys
  longer xs ys e =
      prefix_len-append p xs ys ∙ ap (λ b. cond b (length xs + prefix_len p ys) (prefix_len p xs))
      (whole (prefix_len p xs) (length xs) e)
    where
      whole : (a b : ℕ) → a ≡ b → eqb a b ≡ true
      whole a b e = eq-eqb a b e

  pub no-longer : (xs ys : List ℕ) → prefix_len p xs < length xs → prefix_len p (xs ++ ys) ≡ prefix_len p xs
  no-longer xs ys less =
      prefix_len-append p xs ys
      ∙ ap (λ b. cond b (length xs + prefix_len p ys) (prefix_len p xs))
      (false_from_ne_true _ (λ e. let is : prefix_len p xs ≡ length xs = eqb-true _ _ e in
      omega (arith, less, is)))

  module _ (items : List ℕ) (marks : ℕ) (long : 16 ≤ length items)
      (are : marks ≡ mask_l (map fails (take 16 items))) where
    sixteen : length (take 16 items) ≡ 16
    sixteen = length-chunk 0 16 items (omega (arith, long))

    parts : take 16 items ++ drop 16 items ≡ items
    parts = take-append-drop 16 items

    -- one of the first sixteen does not pass
    pub stops-there : marks ≢ 0 → count_trailing_zeros 64 marks ≡ prefix_len p items
    stops-there some =
        let first = first-fails (take 16 items) (omega (arith, sixteen)) (λ e. some (are ∙ e)) in
        ap (count_trailing_zeros 64) are ∙ first.0 ∙ sym (no-longer (take 16 items) (drop 16 items) first.1)
        ∙ ap (prefix_len p) parts

    -- the first sixteen pass
    pub goes-on : marks ≡ 0 → prefix_len p items ≡ 16 + prefix_len p (drop 16 items)
    goes-on none =
        let all : prefix_len p (take 16 items) ≡ length (take 16 items) =
        all-pass (take 16 items) (sym are ∙ none) in
        ap (prefix_len p) (sym parts) ∙ longer (take 16 items) (drop 16 items) all
        ∙ ap (λ n. n + prefix_len p (drop 16 items)) sixteen

  -- few items that are padded to sixteen with what does not pass
  pub padded-stops : (items copied : List ℕ) (marks : ℕ) → p 32 ≡ false → length items < 16 → copied ≡ items
      → marks ≡ mask_l (map fails (take 16 (copied ++ drop (length items) (replicate 16 32))))
      → count_trailing_zeros 64 marks ≡ prefix_len p items
  padded-stops items copied marks space few is are =
      let rest : drop (length items) (replicate {A = ℕ} 16 32) ≡ replicate (16 - length items) 32 =
      drop-replicate (length items) 16 32 in
      let room : 16 - length items ≡ suc (15 - length items) = omega (arith, few) in
      let more : List ℕ = replicate (15 - length items) 32 in
      let all : copied ++ drop (length items) (replicate 16 32) ≡ items ++ 32 ∷ more =
      rw (is, rest, room) refl in
      let size : length (items ++ 32 ∷ more) ≡ 16 =
      omega (
        arith,
        length-append items (32 ∷ more),
        length-replicate {A = ℕ} (15 - length items) 32,
        few,
      ) in
      let short : prefix_len p (items ++ 32 ∷ more) ≡ prefix_len p items = padded items more space in
      let some : marks ≡ mask_l (map fails (take 16 (items ++ 32 ∷ more))) =
      are ∙ ap (λ l. mask_l (map fails (take 16 l))) all in
      stops-there (items ++ 32 ∷ more) marks (omega (arith, size)) some
      (λ e. zero-not items more space few size
      (sym (ap (λ l. mask_l (map fails l)) (take_all 16 (items ++ 32 ∷ more) (omega (arith, size))))
      ∙ sym some ∙ e)) ∙ short
    where
      padded : (xs more : List ℕ) → p 32 ≡ false → prefix_len p (xs ++ 32 ∷ more) ≡ prefix_len p xs
      padded [] more e = rw e refl
      padded (x ∷ xs) more e = ap (λ n. cond (p x) (1 + n) 0) (padded xs more e)

      zero-not : (xs more : List ℕ) → p 32 ≡ false → length xs < 16 → length (xs ++ 32 ∷ more) ≡ 16
          → mask_l (map fails (xs ++ 32 ∷ more)) ≡ 0 → ⊥
      zero-not xs more e few size none =
          omega (
            arith,
            all-pass (xs ++ 32 ∷ more) none,
            padded xs more e,
            prefix_len-le-length p xs,
            few,
            size,
          )
