-- The numbers below a bound that meet a condition, in rising order: with one number more, and past numbers
-- that do not meet it.
use Rattle.std.proofs.Common.{◌≡◌, ℕ, ◌+◌, ◌*◌, ◌/◌, ◌%◌, ◌-◌, ◌^◌, ◌<◌, ◌≤◌, ◌⊎◌, inl, inr, ◌∙◌, List, []}
use Rattle.std.proofs.Common.{◌∷◌, ◌++◌, length, get_or, ap, sym, subst, arith, min, w64}
use Rattle.std.specs.Prelude.{◌↔◌, All, Contains, bit_and}
use Rattle.std.specs.Int.{bit_at, bit_not}
use Rattle.std.specs.List.Sorted.{IsStrictlyIncreasing}
use Rattle.std.proofs.lemmas.Bool.{cases_eq, cases_lt}
use Rattle.std.proofs.lemmas.List.{get_or_append_left, get_or_default, length-append}
use Rattle.std.proofs.Math.Seq.{get_or-append_seam}
use Rattle.std.proofs.lemmas.List.Elements.{Contains-push, Contains-append_left, Contains-push_cases}
use Rattle.std.proofs.lemmas.Nat.Bits.{bit_at_and, bit_at_not, bit_at-zero, bit_at-lt, bit_at_above}
use Rattle.std.proofs.lemmas.Nat.{and_le_l, pow-add}
use native.Mathlib.Nat.{div-div-eq-div-mul, div-le_self}
use Rattle.bit_tables.specs.Sets.{Has}
use Rattle.bit_tables.specs.Ways.{AreThoseBelow}

pub not_in-none : (x : ℕ) → ¬ Contains {X = ℕ} [] x
not_in-none x (i, lt, is) = omega (arith, lt)

-- one number more than all of them
pub rising_more : (xs : List ℕ) (m : ℕ) → IsStrictlyIncreasing xs → ((x : ℕ) → Contains xs x → x < m)
    → IsStrictlyIncreasing (xs ++ m ∷ [])
rising_more xs m rising below k lt =
    let size : length (xs ++ m ∷ []) ≡ length xs + 1 = length-append xs (m ∷ []) in
    let here : k < length xs = omega (arith, lt, size) in
    let first : get_or (xs ++ m ∷ []) k 0 ≡ get_or xs k 0 = get_or_append_left xs (m ∷ []) 0 k here in
    elim (cases_lt (k + 1) (length xs)) [
      | inl within ↦
          let second : get_or (xs ++ m ∷ []) (k + 1) 0 ≡ get_or xs (k + 1) 0 =
          get_or_append_left xs (m ∷ []) 0 (k + 1) within in
          let less : get_or xs k 0 < get_or xs (k + 1) 0 = rising k within in
          omega (arith, first, second, less)
      | inr past ↦
          let last : k + 1 ≡ length xs = omega (arith, here, past) in
          let second : get_or (xs ++ m ∷ []) (k + 1) 0 ≡ m =
          ap (λ i. get_or (xs ++ m ∷ []) i 0) last ∙ get_or-append_seam xs m [] 0 in
          let less : get_or xs k 0 < m = below (get_or xs k 0) (k, here, get_or_same xs k here) in
          omega (arith, first, second, less)
    ]
  where
    get_or_same : (ys : List ℕ) (i : ℕ) → i < length ys → get_or ys i (get_or ys i 0) ≡ get_or ys i 0
    get_or_same ys i lt = get_or_default ys i (get_or ys i 0) 0 lt

module _ (P : ℕ → Type 0) where
  pub those_none : AreThoseBelow P 0 []
  those_none = record {
    has = λ x. (λ c. absurd (not_in-none x c), λ p. absurd (let lt : x < 0 = p.0 in omega (arith, lt)));
    rising = λ k lt. absurd (omega (arith, lt));
  }

  -- none of the next numbers meets it
  pub those_past : (m far : ℕ) (xs : List ℕ) → m ≤ far → ((x : ℕ) → m ≤ x → x < far → ¬ P x)
      → AreThoseBelow P m xs → AreThoseBelow P far xs
  those_past m far xs le none are = record {
    has = λ x. (
      λ c. (let p = (are.has x).0 c in (omega (arith, le, p.0), p.1)),
      λ p. elim (cases_lt x m) [
        | inl low ↦ (are.has x).1 (low, p.1)
        | inr high ↦ absurd (none x high p.0 p.1)
      ],
    );
    rising = are.rising;
  }

  -- the next number meets it
  pub those_more : (m : ℕ) (xs : List ℕ) → P m → AreThoseBelow P m xs → AreThoseBelow P (m + 1) (xs ++ m ∷ [])
  those_more m xs meets are = record {
    has = λ x. (
      λ c. elim (Contains-push_cases xs m x c) [
        | inl old ↦ (let p = (are.has x).0 old in (omega (arith, p.0), p.1))
        | inr e ↦ (omega (arith, e), subst P e meets)
      ],
      λ p. elim (cases_eq x m) [
        | inl e ↦ subst (λ y. Contains (xs ++ m ∷ []) y) (sym e) (Contains-push xs m)
        | inr apart ↦ Contains-append_left xs (m ∷ []) x ((are.has x).1 (omega (arith, p.0, apart), p.1))
      ],
    );
    rising = rising_more xs m are.rising (λ x c. ((are.has x).0 c).0);
  }

  -- those below two bounds are those below the lesser
  pub those_below : (n m : ℕ) (xs : List ℕ) → n ≤ m → AreThoseBelow (λ x. (x < n) × P x) m xs
      → AreThoseBelow P n xs
  those_below n m xs le are = record {
    has = λ x. (λ c. (let p = (are.has x).0 c in p.1), λ p. (are.has x).1 (omega (arith, p.0, le), p));
    rising = are.rising;
  }

  -- and all are below a greater bound
  pub those_all : (n far : ℕ) (xs : List ℕ) → n ≤ far → AreThoseBelow P n xs → All (λ x. x < far) xs
  those_all n far xs le are i d lt =
      let x : ℕ = get_or xs i d in
      let there : Contains xs x = (i, lt, get_or_default xs i x d lt) in
      let low : x < n = ((are.has x).0 there).0 in
      omega (arith, low, le)

-- a set has a number or not
pub cases_has : (set : List ℕ) (x : ℕ) → Has set x ⊎ (¬ Has set x)
unfolding Has
cases_has set x = cases_eq (bit_at (get_or set (x / 64) 0) (x % 64)) 1

-- the bits of one word that another has not
pub lacking-bit : (a b i : ℕ) → b < 2 ^ 64 → i < 64 → (bit_at (bit_and a (bit_not w64 b)) i ≡ 1)
    ↔ ((bit_at a i ≡ 1) × (bit_at b i ≡ 1 → ⊥))
lacking-bit a b i small low =
    let both : bit_at (bit_and a (bit_not w64 b)) i ≡ min (bit_at a i) (bit_at (bit_not w64 b) i) =
    bit_at_and a (bit_not w64 b) i in
    let other : bit_at (bit_not w64 b) i ≡ 1 - bit_at b i = bit_at_not w64 b i small low in
    let bit_a : bit_at a i < 2 = bit_at-lt a i in
    let bit_b : bit_at b i < 2 = bit_at-lt b i in (
      λ h. (
        omega (arith, both, other, bit_a, bit_b, h),
        λ one. omega (arith, both, other, bit_a, bit_b, h, one),
      ),
      λ p. elim (cases_eq (bit_at b i) 1) [
        | inl one ↦ absurd (p.1 one)
        | inr none ↦ omega (arith, both, other, bit_a, bit_b, p.0, none)
      ],
    )

-- of the same bits those from a place on are a word
pub rest-small : (a b place : ℕ) → a < 2 ^ 64 → bit_and a (bit_not w64 b) / 2 ^ place < 2 ^ 64
rest-small a b place fits =
    let n : ℕ = bit_and a (bit_not w64 b) in
    let less : n ≤ a = and_le_l a (bit_not w64 b) in
    let part : n / 2 ^ place ≤ n = div-le_self n (2 ^ place) in
    omega (arith, fits, less, part)

module _ (set other : List ℕ) (word a b : ℕ) (one : a ≡ get_or set word 0) (two : b ≡ get_or other word 0)
    (small : b < 2 ^ 64) where
  -- a number of the word
  pub lacking-has : (i : ℕ) → i < 64 → (bit_at (bit_and a (bit_not w64 b)) i ≡ 1)
      ↔ (Has set (64 * word + i) × (¬ Has other (64 * word + i)))
  unfolding Has
  lacking-has i low =
      let at : (64 * word + i) / 64 ≡ word = omega (arith, low) in
      let place : (64 * word + i) % 64 ≡ i = omega (arith, low) in
      rw (at, place, ← one, ← two) (lacking-bit a b i small low)

  -- and of the word from a place on
  module _ (place : ℕ) (low_place : place < 64) where
    pub rest-bit : (j : ℕ) → bit_at (bit_and a (bit_not w64 b) / 2 ^ place) j
        ≡ bit_at (bit_and a (bit_not w64 b)) (place + j)
    rest-bit j =
        let n : ℕ = bit_and a (bit_not w64 b) in
        ap (λ m. m % 2) (div-div-eq-div-mul n (2 ^ place) (2 ^ j) ∙ ap (λ m. n / m) (sym (pow-add 2 place j)))

    -- where the first bits of the rest are 0, what the set has of these numbers the other has too
    pub rest-before : (count : ℕ)
        → ((j : ℕ) → j < count → bit_at (bit_and a (bit_not w64 b) / 2 ^ place) j ≡ 0)
        → (x : ℕ) → x / 64 ≡ word → place ≤ x % 64 → x % 64 < place + count → Has set x → Has other x
    rest-before count zeros x here from before has =
        let j : ℕ = x % 64 - place in
        let at : place + j ≡ x % 64 = omega arith in
        let same : 64 * word + x % 64 ≡ x = omega arith in
        let bit : bit_at (bit_and a (bit_not w64 b)) (x % 64) ≡ 0 =
        ap (λ i. bit_at (bit_and a (bit_not w64 b)) i) (sym at) ∙ sym (rest-bit j)
        ∙ zeros j (omega arith) in
        elim (cases_has other x) [
          | inl there ↦ there
          | inr lacks ↦
              let one : bit_at (bit_and a (bit_not w64 b)) (x % 64) ≡ 1 =
              (lacking-has (x % 64) (omega arith)).1
              (subst (λ y. Has set y × (¬ Has other y)) (sym same) (has, lacks)) in
              absurd (omega (arith, bit, one))
        ]

    pub rest-none : bit_and a (bit_not w64 b) / 2 ^ place ≡ 0 → (x : ℕ) → x / 64 ≡ word → place ≤ x % 64
        → Has set x → Has other x
    rest-none zero x here from has =
        rest-before 64 (λ j low. ap (λ w. bit_at w j) zero ∙ bit_at-zero j) x here from (omega arith) has

    -- the first bit of the rest that is 1
    pub rest-first : (i x : ℕ) → a < 2 ^ 64 → bit_at (bit_and a (bit_not w64 b) / 2 ^ place) i ≡ 1
        → 64 * word + place + i ≡ x → (x / 64 ≡ word) × (place ≤ x % 64) × Has set x × (¬ Has other x)
    rest-first i x fits bit is = elim (cases_lt (place + i) 64) [
      | inl low ↦
          let same : 64 * word + (place + i) ≡ x = omega (arith, is) in
          let has =
          subst (λ y. Has set y × (¬ Has other y)) same
          ((lacking-has (place + i) low).0 (sym (rest-bit i) ∙ bit)) in
          (omega (arith, same, low), omega (arith, same, low), has.0, has.1)
      | inr high ↦
          let less : bit_and a (bit_not w64 b) ≤ a = and_le_l a (bit_not w64 b) in
          let none : bit_at (bit_and a (bit_not w64 b)) (place + i) ≡ 0 =
          bit_at_above (bit_and a (bit_not w64 b)) 64 (place + i) (omega (arith, less, fits)) high in
          absurd (omega (arith, sym (rest-bit i) ∙ bit, none))
    ]
