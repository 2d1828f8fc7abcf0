-- The first byte that differs is found by the least bit of those that are set.
use Rattle.std.proofs.Common.{◌%◌, ◌^◌, w8, ◌≡◌, ◌∙◌, ◌+◌, ◌-◌, ◌≤◌, ◌<◌, ℕ, zero, suc, [], ◌∷◌, drop, ap₂}
use Rattle.std.proofs.Common.{Bool, true, false, List, length, take, map, get_or, slice_index, sym, refl, ap}
use Rattle.std.proofs.Common.{subst, arith, eqb, cond, inl, inr}
use Rattle.std.specs.Prelude.{not, ◌==◌}
use Rattle.std.specs.List.{prefix_len}
use Rattle.std.specs.Simd.Lanes.{mask_l}
use lib.Count.{count_trailing_zeros}
use Rattle.std.specs.Cmp.Lexicographic.{pointwise, bytes_decides}
use lib.Lanes.{top, zip2}
use Rattle.std.proofs.lemmas.Bool.{cases_lt, eq-eqb, false_from_ne_true, eqb-true, eqb-false}
use Rattle.std.proofs.lemmas.List.{get_or-drop}
use Rattle.std.proofs.lemmas.Bool.Decides.{eqb_tells}
use Rattle.std.proofs.lemmas.List.{map-id, take_all}
use Rattle.std.proofs.lemmas.Simd.{first_set_mask_l, tops_compared, mask_l-mod, run_in_chunk_le}
use Rattle.std.proofs.lemmas.Simd.{run_in_chunk_fails, run_in_chunk_stops, length-zip2, length-chunk}
use Rattle.std.proofs.lemmas.Simd.{get_or-zip2, get_or-chunk}
use Rattle.events.specs.SameNames.{unlike, AreSame}

not-false : (b : Bool) → not b ≡ false → b ≡ true
not-false true e = refl
not-false false e = absurd cc

not-true : (b : Bool) → not b ≡ true → b ≡ false
not-true true e = absurd cc
not-true false e = refl

same-place : (xs : List ℕ) (k : ℕ) → get_or xs (0 + k) 0 ≡ get_or xs k 0
same-place xs k = let e : 0 + k ≡ k = omega arith in ap (λ i. get_or xs i 0) e

module _ (n : ℕ) (a b : List ℕ) (here : n ≤ length a) (there : n ≤ length b) (few : n ≤ 64) where
  abbrev lanes : List Bool
  lanes = unlike (take n a) (take n b)

  long : length (take n a) ≡ n
  long = length-chunk 0 n a (omega (arith, here))

  other_long : length (take n b) ≡ n
  other_long = length-chunk 0 n b (omega (arith, there))

  pub length-unlike : length lanes ≡ n
  length-unlike = length-zip2 _ (take n a) (take n b) (long ∙ sym other_long) ∙ long

  at : (k : ℕ) → k < n → get_or lanes k false ≡ not (eqb (get_or a k 0) (get_or b k 0))
  at k h =
      get_or-zip2 (λ x y. not (eqb x y)) (take n a) (take n b) k 0 0 false (omega (arith, h, long))
      (omega (arith, h, other_long))
      ∙ ap (λ x. not (eqb x (get_or (take n b) k 0))) (get_or-chunk 0 n a k 0 h ∙ same-place a k)
      ∙ ap (λ y. not (eqb (get_or a k 0) y)) (get_or-chunk 0 n b k 0 h ∙ same-place b k)

  start : (k : ℕ) → get_or lanes k false ≡ get_or lanes (0 + k) false
  start k = let e : k ≡ 0 + k = omega arith in ap (λ i. get_or lanes i false) e

  room : 0 + n ≤ length lanes
  room = omega (arith, length-unlike)

  abbrev first : ℕ
  first = cond (eqb (mask_l lanes) 0) n (count_trailing_zeros 64 (mask_l lanes))

  counted : first ≡ prefix_len (λ x. not x) (take n lanes)
  counted =
      ap (λ l. cond (eqb (mask_l l) 0) n (count_trailing_zeros 64 (mask_l l))) (sym (map-id lanes))
      ∙ first_set_mask_l (λ x. x) lanes n length-unlike few
      ∙ ap (prefix_len (λ x. not x)) (sym (take_all n lanes (omega (arith, length-unlike))))

  pub are-same : AreSame a b n (cond (eqb (mask_l lanes) 0) n (count_trailing_zeros 64 (mask_l lanes)))
  are-same = record {
    within = run_in_chunk_le (λ x. x) lanes 0 n first false room counted;
    same = λ k h.
        let less : k < n = omega (arith, h, run_in_chunk_le (λ x. x) lanes 0 n first false room counted) in
        eqb-true _ _
        (not-false _ (sym (at k less) ∙ run_in_chunk_fails (λ x. x) lanes 0 n first false room counted k
        (omega arith) (omega (arith, h))));
    differs =
        λ h. eqb-false _ _ (not-true _ (sym (at first h) ∙ start first
        ∙ run_in_chunk_stops (λ x. x) lanes 0 n first false room counted h));
  }

  pub none : mask_l lanes ≡ 0 → AreSame a b n n
  none e = subst (λ m. AreSame a b n (cond (eqb m 0) n (count_trailing_zeros 64 m))) e are-same

  pub some : (mask_l lanes ≡ 0 → ⊥) → AreSame a b n (count_trailing_zeros 64 (mask_l lanes))
  some d = elim (eqb_tells (mask_l lanes) 0) [
    | inl h ↦ absurd (d h.1)
    | inr h ↦ subst (λ t. AreSame a b n (cond t n (count_trailing_zeros 64 (mask_l lanes)))) h.0 are-same
  ]

  -- as the vectors' comparison gives the bits
  pub bits : mask_l (map (top 7) (zip2 (λ x y. cond (not (eqb x y)) 255 0) (take n a) (take n b))) % 2 ^ 64
      ≡ mask_l lanes
  bits = ap (λ l. mask_l l % 2 ^ 64) (tops_compared w8 (λ x y. not (eqb x y)) (take n a) (take n b))
      ∙ mask_l-mod lanes 64 (omega (arith, length-unlike, few))

-- of lists whose first places are the same
pub take-same : (n : ℕ) (a b : List ℕ) → n ≤ length a → n ≤ length b
    → ((k : ℕ) → k < n → slice_index a k ≡ slice_index b k) → take n a ≡ take n b
take-same zero a b h g e = refl
take-same (suc n) [] b h g e = absurd (omega (arith, h))
take-same (suc n) (x ∷ a) [] h g e = absurd (omega (arith, g))
take-same (suc n) (x ∷ a) (y ∷ b) h g e =
    ap₂ (λ z l. z ∷ l) (e 0 (omega arith))
    (take-same n a b (omega (arith, h)) (omega (arith, g)) (λ k lt. e (suc k) (omega (arith, lt))))

-- no bit is set where no place is
unset : (bs : List Bool) → ((k : ℕ) → k < length bs → get_or bs k false ≡ false) → mask_l bs ≡ 0
unset [] h = refl
unset (true ∷ bs) h = absurd (true-false (h 0 (omega arith)))
  where
    true-false : true ≡ false → ⊥
    true-false e = cc
unset (false ∷ bs) h = let rest : mask_l bs ≡ 0 = unset bs (λ k lt. h (suc k) (omega (arith, lt))) in
    omega (arith, rest)

-- whether no bit is set is whether the lists are the same
pub none-is-same : (n : ℕ) (a b : List ℕ) → length a ≡ n → length b ≡ n → n ≤ 64
    → eqb (mask_l (unlike (take n a) (take n b))) 0 ≡ pointwise ◌==◌ a b
none-is-same n a b here there few = elim (eqb_tells (mask_l (unlike (take n a) (take n b))) 0) [
  | inl h ↦ h.0 ∙ sym ((bytes_decides a b).1 (whole h.1))
  | inr h ↦ h.0 ∙ sym (false_from_ne_true _ (λ e. h.1 (zero-of ((bytes_decides a b).0 e))))
]
  where
    le : n ≤ length a
    le = omega (arith, here)

    other_le : n ≤ length b
    other_le = omega (arith, there)

    whole : mask_l (unlike (take n a) (take n b)) ≡ 0 → a ≡ b
    whole e =
        sym (take_all n a (omega (arith, here)))
        ∙ take-same n a b le other_le (AreSame.same (none n a b le other_le few e))
        ∙ take_all n b (omega (arith, there))

    zero-of : a ≡ b → mask_l (unlike (take n a) (take n b)) ≡ 0
    zero-of e =
        unset _ (λ k lt. at n a b le other_le few k (omega (arith, lt, length-unlike n a b le other_le few))
        ∙ ap (λ l. not (eqb (get_or a k 0) (get_or l k 0))) (sym e) ∙ ap not (eq-eqb _ _ refl))

-- what is the same before a place, and from there on
pub and-so-many : (a b : List ℕ) (s m n : ℕ) → ((k : ℕ) → k < s → slice_index a k ≡ slice_index b k)
    → AreSame (drop s a) (drop s b) m n → (k : ℕ) → k < s + n → slice_index a k ≡ slice_index b k
and-so-many a b s m n before h k lt = elim (cases_lt k s) [
  | inl less ↦ before k less
  | inr more ↦
      let e : k ≡ s + (k - s) = omega (arith, more) in
      ap (slice_index a) e ∙ sym (get_or-drop s a (k - s) 0) ∙ h.same (k - s) (omega (arith, more, lt))
      ∙ get_or-drop s b (k - s) 0 ∙ sym (ap (slice_index b) e)
]

-- the same, where the bytes from a place on reach far enough or differ
pub joined : (a b : List ℕ) (s m n most : ℕ) → ((k : ℕ) → k < s → slice_index a k ≡ slice_index b k)
    → AreSame (drop s a) (drop s b) m n → s + n ≤ most → (s + n < most → n < m) → AreSame a b most (s + n)
joined a b s m n most before h within short = record {
  within = within;
  same = and-so-many a b s m n before h;
  differs = λ less e. h.differs (short less) (get_or-drop s a n 0 ∙ e ∙ sym (get_or-drop s b n 0));
}
