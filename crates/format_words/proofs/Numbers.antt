-- What words are numbers.
use Rattle.std.proofs.Common.{◌≡◌, ℕ, ◌<◌, ◌≤◌, ◌^◌, Bool, true, false, ◌+◌, ◌-◌, ◌*◌, ◌&&◌, zero, suc, take}
use Rattle.std.proofs.Common.{nat_lt, [], ◌∷◌, length, get_or, refl, sym, ap, ◌∙◌, arith, Option, Some, None}
use Rattle.std.proofs.Common.{Result, Ok, Err, subst, decimal}
use Rattle.std.specs.Str.{bytes_eq}
use Rattle.std.specs.Char.{digit_value}
use Rattle.std.specs.Int.{IsInRange, IsOutOfRange}
use Rattle.std.proofs.lemmas.Str.{digit_value_digit}
use Rattle.std.proofs.lemmas.Int.Digits.{digits_value_more}
use Rattle.std.proofs.lemmas.List.{length-take-le}
use Rattle.std.proofs.lemmas.Bool.{cases_eq}
use Rattle.std.proofs.Common.{inl, inr}
use Rattle.std.specs.Result.{result_ok, OkIff}
use Rattle.std.specs.Str.Parse.{AllDigits, digits_value, ParsesUnsigned}
use Rattle.std.proofs.lemmas.Str.Parse.{IsNumeralModel, numerals_by_value, tells_digits, parse_plain}
use Rattle.std.proofs.lemmas.Str.Parse.{digit_at, digits_value_short}
use Rattle.std.proofs.lemmas.Fmt.{first_decimal, length-decimal-le, digits_value-decimal}
use Rattle.std.proofs.lemmas.Fmt.{decimal-digits_value, decimal_is_IsNumeral, decimal_nonempty, decimal_digit}
use Rattle.std.proofs.lemmas.Slice.Eq.{bytes_eq-Decides}
use Rattle.std.proofs.lemmas.Option.{cond_some}
use Rattle.std.proofs.lemmas.Bool.Decides.{Decides-ltb}
use Rattle.format_words.specs.Words.{Word}
use Rattle.format_words.specs.Reading.{number_of}

own : IsNumeralModel (AllDigits 10) (digits_value 10)
own = numerals_by_value _ tells_digits

both : (a b : Bool) → (a && b) ≡ true → (a ≡ true) × (b ≡ true)
both true b h = (refl, h)
both false b h = absurd (cc)

number-by : (w : Word) (n : ℕ) → n ≡ digits_value 10 w → w ≡ decimal n → n < 2 ^ 32 → number_of w ≡ Some n
unfolding number_of
number-by w n value is small =
    let same : bytes_eq w (decimal (digits_value 10 w)) ≡ true =
    (bytes_eq-Decides w (decimal (digits_value 10 w))).1 (is ∙ ap decimal value) in
    let fits : nat_lt (digits_value 10 w) (2 ^ 32) ≡ true =
    (Decides-ltb (digits_value 10 w) (2 ^ 32)).1 (rw (← value) small) in
    rw (same, fits) (ap Some (sym value))

-- the decimal text of a number says that number
pub number_of-decimal : (n : ℕ) → n < 2 ^ 32 → number_of (decimal n) ≡ Some n
number_of-decimal n small =
    number-by (decimal n) n (sym (digits_value-decimal own n (omega arith))) refl small

-- and no other word does
pub number_of-is : (w : Word) (n : ℕ) → number_of w ≡ Some n → (w ≡ decimal n) × (n < 2 ^ 32)
unfolding number_of
number_of-is w n e =
    let parts =
    cond_some (bytes_eq w (decimal (digits_value 10 w)) && nat_lt (digits_value 10 w) (2 ^ 32))
    (digits_value 10 w) n e in
    let passed = both _ _ parts.0 in (
      (bytes_eq-Decides w (decimal (digits_value 10 w))).0 passed.0 ∙ ap decimal parts.1,
      rw (← parts.1) ((Decides-ltb (digits_value 10 w) (2 ^ 32)).0 passed.1),
    )

none-or : (o : Option ℕ) → ((n : ℕ) → o ≡ Some n → ⊥) → o ≡ None
none-or None h = refl
none-or (Some n) h = absurd (h n refl)

pub no-number : (w : Word) → ((n : ℕ) → n < 2 ^ 32 → w ≡ decimal n → ⊥) → number_of w ≡ None
no-number w h = none-or (number_of w) (λ n e. let p = number_of-is w n e in h n p.1 p.0)

-- what `parse` reads of a word that begins as a number does
pub parsed-number : {E : Type 0} → (w : Word) (r : Result ℕ E) → ParsesUnsigned 32 10 w r → 0 < length w
    → 48 < get_or w 0 0 → get_or w 0 0 ≤ 57 → result_ok r ≡ number_of w
parsed-number {E} w (Ok n) h some low high =
    let plain = parse_plain own {E = E} 32 w (Ok n) h (λ e. absurd (omega arith)) in
    let small : digits_value 10 w < 2 ^ 32 = plain.0.2 in
    let text : decimal (digits_value 10 w) ≡ w =
    decimal-digits_value own w plain.0.0 some (λ e. absurd (omega arith)) (omega arith) in
    let value : n ≡ digits_value 10 w = plain.1 in
    sym (number-by w n value (sym text ∙ ap decimal (sym value)) (rw value small))
parsed-number {E} w (Err e) h some low high =
    let plain = parse_plain own {E = E} 32 w (Err e) h (λ e. absurd (omega arith)) in
    sym (no-number w (λ n small is.
    let numeral = decimal_is_IsNumeral n (omega arith) in
    let digits : AllDigits 10 w = rw is numeral.0.1 in
    let value : digits_value 10 w ≡ n = rw is numeral.1 in
    plain (digits, some, rw value small)))

pub empty-word : (w : Word) → length w < 1 → number_of w ≡ None
empty-word w h =
    no-number w (λ n small is. absurd (omega (arith, ap length is, decimal_nonempty n (omega arith))))

-- a zero begins the number 0 alone
pub zero-word : (w : Word) → get_or w 0 0 ≡ 48 → 1 < length w → number_of w ≡ None
zero-word w begins more = no-number w (λ n small is.
    let first : get_or w 0 0 ≡ get_or (decimal n) 0 0 = ap (λ l. get_or l 0 0) is in
    elim (cases_eq n 0) [
      | inl e ↦
          absurd (omega (arith, ap length (is ∙ ap decimal e ∙ decimal_digit 0 (omega arith))))
      | inr d ↦
          absurd (omega (arith, first_decimal n (omega arith) (omega arith)))
    ])

-- and no number has more than ten digits
pub long-word : (w : Word) → 10 < length w → number_of w ≡ None
long-word w long =
    no-number w
    (λ n small is. absurd
    (omega (arith, ap length is, length-decimal-le 10 n (omega arith) (omega arith) (omega arith))))

-- other bytes than digits write none
pub no-digits : (w : Word) → ¬ (AllDigits 10 w) → number_of w ≡ None
no-digits w h = no-number w (λ n small is.
    let numeral = decimal_is_IsNumeral n (omega arith) in
    h (rw is numeral.0.1))

-- digits without leading zeros write the number that they have as their value
pub digits-number : (w : Word) (n : ℕ) → AllDigits 10 w → n ≡ digits_value 10 w → 0 < length w
    → (get_or w 0 0 ≡ 48 → length w ≡ 1) → n < 2 ^ 32 → number_of w ≡ Some n
digits-number w n digits value some lead small =
    let text : decimal (digits_value 10 w) ≡ w =
    decimal-digits_value own w digits some lead (omega (arith, value)) in
    number-by w n value (sym text ∙ ap decimal (sym value)) small

-- unless that is too large
large-word : (w : Word) (n : ℕ) → n ≡ digits_value 10 w → ¬ (n < 2 ^ 32) → number_of w ≡ None
large-word w n value large = no-number w (λ m small is.
    let numeral = decimal_is_IsNumeral m (omega arith) in
    let same : digits_value 10 w ≡ m = rw is numeral.1 in
    large (omega (arith, value, same, small)))

-- so it is the number where that fits
pub fitting-number : {E : Type 0} → (w : Word) (n : ℕ) (r : Result ℕ E) → OkIff r (n < 2 ^ 32) n
    → AllDigits 10 w × (n ≡ digits_value 10 w) → 0 < length w → (get_or w 0 0 ≡ 48 → length w ≡ 1)
    → result_ok r ≡ number_of w
fitting-number w n (Ok m) h digits some lead =
    ap Some h.1 ∙ sym (digits-number w n digits.0 digits.1 some lead h.0)
fitting-number w n (Err e) h digits some lead = sym (large-word w n digits.1 h)

-- one more digit

digits-more : (w : Word) (i : ℕ) → i < length w → AllDigits 10 (take i w) → digit_value (get_or w i 0) < 10
    → AllDigits 10 (take (suc i) w)
digits-more [] i l digits d = absurd (omega arith)
digits-more (b ∷ w) zero l digits d = (d, tt)
digits-more (b ∷ w) (suc i) l digits d = (digits.0, digits-more w i (omega arith) digits.1 d)

pub one-digit-more : (w : Word) (i v d : ℕ) → i < length w → IsInRange 48 57 (get_or w i 0)
    → d ≡ get_or w i 0 - 48 → AllDigits 10 (take i w) × (v ≡ digits_value 10 (take i w))
    → AllDigits 10 (take (i + 1) w) × (v * 10 + d ≡ digits_value 10 (take (i + 1) w))
one-digit-more w i v d l range is front =
    let digit = digit_value_digit (get_or w i 0) range in
    let next : suc i ≡ i + 1 = omega arith in (
      subst (λ k. AllDigits 10 (take k w)) next (digits-more w i l front.0 (omega (arith, digit, range.1))),
      omega (arith, digits_value_more 10 w i l, front.1, digit, is, range.0),
    )

-- nine digits or fewer leave room for it
pub room-for-digit : (w : Word) (i v : ℕ) → i < length w → length w ≤ 10
    → AllDigits 10 (take i w) × (v ≡ digits_value 10 (take i w)) → v < 1000000000
room-for-digit w i v l few front =
    omega (
      arith,
      front.1,
      digits_value_short own (take i w) 9 front.0 (omega (arith, length-take-le i w (omega arith))),
    )

pub all-digits : (w : Word) (i : ℕ) → i < length w → IsOutOfRange 48 57 (get_or w i 0) → ¬ (AllDigits 10 w)
all-digits w i l out digits = let range = digit_at w i digits l in
    elim out [ inl low ↦ omega (arith, low, range.0) | inr high ↦ omega (arith, high, range.1) ]
