-- Sets as words.
use Rattle.std.proofs.Common.{◌≡◌, ℕ, ◌+◌, ◌-◌, ◌*◌, ◌/◌, ◌%◌, ◌^◌, ◌<◌, ◌≤◌, ◌⊎◌, List, length, get_or, set}
use Rattle.std.proofs.Common.{eqb, true, replicate, ◌∙◌, ap, sym, inl, inr, arith, min, max, eq-eqb, eqb-true}
use Rattle.std.proofs.Common.{get_or-set_same, get_or-set_other, w64}
use Rattle.std.proofs.lemmas.Bool.{cases_eq, cases_lt}
use Rattle.std.proofs.lemmas.List.{get_or-replicate, get_or_past, length-replicate}
use Rattle.std.proofs.lemmas.Nat.{and_le_l}
use Rattle.std.proofs.lemmas.Nat.Bits.{bit_at_or, bit_at_and, bit_at_ones, bit_at-zero, bit_at-lt}
use Rattle.std.proofs.lemmas.Nat.Bits.{bit_at_set_same, bit_at_set_other, shr_and_one, same_from_bits_below}
use Rattle.std.specs.Prelude.{bit_and, bit_or, ◌↔◌}
use Rattle.std.specs.Int.{bit_at}
use Rattle.bit_tables.specs.Sets.{Has, room}

-- words that are 0 have no number
pub Has-zero : (words : List ℕ) (x : ℕ) → get_or words (x / 64) 0 ≡ 0 → ¬ Has words x
unfolding Has
Has-zero words x zero has = omega (arith, has, ap (λ w. bit_at w (x % 64)) zero, bit_at-zero (x % 64))

-- a set has only numbers that there is room for
pub Has-room : (words : List ℕ) (x : ℕ) → Has words x → x < room words
Has-room words x has =
    elim (cases_lt (x / 64) (length words)) [
      | inl within ↦ omega arith
      | inr past ↦ absurd (Has-zero words x (get_or_past words (x / 64) 0 past) has)
    ]

-- the test of a bit
pub Has_test : (words : List ℕ) (word x : ℕ) → word ≡ get_or words (x / 64) 0
    → (eqb (bit_and (word / 2 ^ (x % 64)) 1) 1 ≡ true) ↔ Has words x
unfolding Has
Has_test words word x read = rw (read, shr_and_one) (eqb-true _ 1, eq-eqb _ 1)

-- a bit that is set adds its number
pub Has-set : (words : List ℕ) (n word : ℕ) → n < room words → word ≡ get_or words (n / 64) 0
    → (x : ℕ) → Has (set words (n / 64) (bit_or word (1 * 2 ^ (n % 64) % 2 ^ 64))) x ↔ (Has words x ⊎ (x ≡ n))
unfolding Has
Has-set words n word within read x =
    let v : ℕ = bit_or word (1 * 2 ^ (n % 64) % 2 ^ 64) in
    let word_in : n / 64 < length words = omega arith in
    let low : n % 64 < 64 = omega arith in
    let same : get_or (set words (n / 64) v) (n / 64) 0 ≡ v = get_or-set_same words (n / 64) v 0 word_in in
    elim (cases_eq x n) [
      | inl here ↦
          (λ h. inr here, λ h. rw (here, same) (bit_at_set_same w64 word (n % 64) low))
      | inr other ↦
          let kept : bit_at (get_or (set words (n / 64) v) (x / 64) 0) (x % 64)
          ≡ bit_at (get_or words (x / 64) 0) (x % 64) =
          elim (cases_eq (x / 64) (n / 64)) [
            | inl row ↦
                ap (λ k. bit_at (get_or (set words (n / 64) v) k 0) (x % 64)) row
                ∙ ap (λ w. bit_at w (x % 64)) same
                ∙ bit_at_set_other w64 word (n % 64) low (x % 64) (omega arith)
                ∙ ap (λ w. bit_at w (x % 64)) (read ∙ ap (λ k. get_or words k 0) (sym row))
            | inr apart ↦ ap (λ w. bit_at w (x % 64)) (get_or-set_other words (n / 64) (x / 64) v 0 apart)
          ] in
          (λ h. inl (sym kept ∙ h), λ h. elim h [ inl old ↦ kept ∙ old | inr here ↦ absurd (other here) ])
    ]

-- words of which those from one on are joined
pub Has-or_words : (old new other : List ℕ) (first : ℕ) → length old ≡ length other → length new ≡ length old
    → ((k : ℕ) → first / 64 ≤ k → k < length old
    → get_or new k 0 ≡ bit_or (get_or old k 0) (get_or other k 0))
    → (x : ℕ) → first ≤ x → Has new x ↔ (Has old x ⊎ Has other x)
unfolding Has
Has-or_words old new other first len same each x from =
    elim (cases_lt (x / 64) (length old)) [
      | inl within ↦
          let a : ℕ = bit_at (get_or old (x / 64) 0) (x % 64) in
          let b : ℕ = bit_at (get_or other (x / 64) 0) (x % 64) in
          let at : bit_at (get_or new (x / 64) 0) (x % 64) ≡ max a b =
          ap (λ w. bit_at w (x % 64)) (each (x / 64) (omega (arith, from)) within) ∙ bit_at_or _ _ (x % 64) in
          let small_a : a < 2 = bit_at-lt _ _ in
          let small_b : b < 2 = bit_at-lt _ _ in (
            λ h. elim (cases_eq a 1) [ inl one ↦ inl one | inr none ↦ inr (omega (arith, at, h)) ],
            λ h. elim h [ inl one ↦ omega (arith, at, one) | inr one ↦ omega (arith, at, one) ],
          )
      | inr past ↦
          let none_new : ¬ Has new x = Has-zero new x (get_or_past new (x / 64) 0 (omega arith)) in
          let none_old : ¬ Has old x = Has-zero old x (get_or_past old (x / 64) 0 (omega arith)) in
          let none_other : ¬ Has other x = Has-zero other x (get_or_past other (x / 64) 0 (omega arith)) in (
            λ h. absurd (none_new h),
            λ h. elim h [
              | inl a ↦ absurd (none_old a)
              | inr b ↦
                  absurd (none_other b)
            ],
          )
    ]

-- first words whose bits are all 1
pub Has-filled : (old new : List ℕ) (count : ℕ) → ((k : ℕ) → k < count → get_or new k 0 ≡ 2 ^ 64 - 1)
    → ((k : ℕ) → count ≤ k → get_or new k 0 ≡ get_or old k 0)
    → (x : ℕ) → Has new x ↔ (Has old x ⊎ (x / 64 < count))
unfolding Has
Has-filled old new count full rest x =
    elim (cases_lt (x / 64) count) [
      | inl within ↦
          let one : bit_at (get_or new (x / 64) 0) (x % 64) ≡ 1 =
          ap (λ w. bit_at w (x % 64)) (full (x / 64) within) ∙ bit_at_ones 64 (x % 64) (omega arith) in
          (λ h. inr within, λ h. one)
      | inr past ↦
          let same : bit_at (get_or new (x / 64) 0) (x % 64) ≡ bit_at (get_or old (x / 64) 0) (x % 64) =
          ap (λ w. bit_at w (x % 64)) (rest (x / 64) past) in (
            λ h. inl (sym same ∙ h),
            λ h. elim h [
              | inl was ↦ same ∙ was
              | inr low ↦
                  absurd (omega (arith, past, low))
            ],
          )
    ]

-- words whose bits are among those of others
pub Has-within : (a b : List ℕ) → length a ≡ length b → ((k : ℕ) → get_or a k 0 < 2 ^ 64)
    → ((k : ℕ) → k < length a → bit_and (get_or a k 0) (get_or b k 0) ≡ get_or a k 0)
    ↔ ((x : ℕ) → Has a x → Has b x)
unfolding Has
Has-within a b len fits = (
  λ each x has.
      let within : x < 64 * length a = Has-room a x has in
      let at : bit_at (get_or a (x / 64) 0) (x % 64) ≡ min (bit_at (get_or a (x / 64) 0) (x % 64))
      (bit_at (get_or b (x / 64) 0) (x % 64)) =
      ap (λ w. bit_at w (x % 64)) (sym (each (x / 64) (omega arith))) ∙ bit_at_and _ _ (x % 64) in
      let small : bit_at (get_or b (x / 64) 0) (x % 64) < 2 = bit_at-lt _ _ in
      omega (arith, at, has),
  λ all k within.
      same_from_bits_below 64 _ _ (omega (arith, and_le_l (get_or a k 0) (get_or b k 0), fits k)) (fits k)
      (λ i low.
      let word : (64 * k + i) / 64 ≡ k = omega arith in
      let place : (64 * k + i) % 64 ≡ i = omega arith in
      let there : bit_at (get_or a k 0) i ≡ 1 → bit_at (get_or b k 0) i ≡ 1 =
      rw (word, place) at (all (64 * k + i)) in
      let both = bit_at_and (get_or a k 0) (get_or b k 0) i in
      let small_a : bit_at (get_or a k 0) i < 2 = bit_at-lt _ _ in
      let small_b : bit_at (get_or b k 0) i < 2 = bit_at-lt _ _ in
      elim (cases_eq (bit_at (get_or a k 0) i) 1) [
        | inl one ↦ omega (arith, both, there one)
        | inr none ↦ omega (arith, both)
      ]),
)

-- n words that are 0 have no number
pub Has-zeros : (n : ℕ) (x : ℕ) (words : List ℕ) → words ≡ replicate n 0 → ¬ Has words x
Has-zeros n x words zeros =
    Has-zero words x
    (elim (cases_lt (x / 64) n) [
      | inl within ↦ ap (λ w. get_or w (x / 64) 0) zeros ∙ get_or-replicate n (x / 64) 0 0 within
      | inr past ↦ get_or_past words (x / 64) 0 (rw (zeros, length-replicate) past)
    ])

-- a set has a number, or it has not
pub Has-either : (words : List ℕ) (x : ℕ) → Has words x ⊎ (¬ Has words x)
unfolding Has
Has-either words x = cases_eq (bit_at (get_or words (x / 64) 0) (x % 64)) 1

-- one word whose bits are among those of another
pub Has-word_within : (a b : List ℕ) (word y : ℕ) → bit_and (get_or a word 0) (get_or b word 0)
    ≡ get_or a word 0 → y / 64 ≡ word → Has a y → Has b y
unfolding Has
Has-word_within a b word y same e has =
    let at : bit_at (get_or a word 0) (y % 64) ≡ min (bit_at (get_or a word 0) (y % 64))
    (bit_at (get_or b word 0) (y % 64)) =
    ap (λ w. bit_at w (y % 64)) (sym same) ∙ bit_at_and _ _ (y % 64) in
    let here : bit_at (get_or a word 0) (y % 64) ≡ 1 =
    ap (λ i. bit_at (get_or a i 0) (y % 64)) (sym e) ∙ has in
    let small : bit_at (get_or b word 0) (y % 64) < 2 = bit_at-lt _ _ in
    let there : bit_at (get_or b word 0) (y % 64) ≡ 1 = omega (arith, at, here) in
    ap (λ i. bit_at (get_or b i 0) (y % 64)) e ∙ there
