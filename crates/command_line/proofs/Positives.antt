-- Which words are numbers from 1.
use Rattle.std.proofs.Common.{◌≡◌, ◌≢◌, ℕ, ◌<◌, ◌≤◌, ◌^◌, List, length, get_or, sym, ap, ◌∙◌, arith, Option}
use Rattle.std.proofs.Common.{Some, None, Err, decimal, refl}
use Rattle.std.proofs.lemmas.Option.{same_Some}
use Rattle.std.proofs.lemmas.Fmt.{first_decimal, decimal_is_IsNumeral, decimal_nonempty, decimal_digit}
use Rattle.std.proofs.lemmas.Str.Parse.{digit_at}
use Rattle.format_words.specs.Reading.{number_of}
use Rattle.format_words.proofs.Numbers.{number_of-decimal, number_of-is}
use Rattle.command_line.specs.Workers.{IsPositiveOf, IsWorkersOf}
use Rattle.command_line.specs.declared.words.WordsFault.TheVariants.{Usage}

-- the word is the text of no number from 1
abbrev pub IsNoPositive : List ℕ → Type 0
IsNoPositive word = (n : ℕ) → 1 ≤ n → n < 2 ^ 32 → word ≢ decimal n

pub empty-word : (w : List ℕ) → length w < 1 → IsNoPositive w
empty-word w h n low small is = absurd (omega (arith, ap length is, decimal_nonempty n (omega arith)))

pub low-word : (w : List ℕ) → get_or w 0 0 < 49 → IsNoPositive w
low-word w h n low small is =
    let first : get_or w 0 0 ≡ get_or (decimal n) 0 0 = ap (λ l. get_or l 0 0) is in
    absurd (omega (arith, first_decimal n (omega arith) (omega arith)))

pub high-word : (w : List ℕ) → 57 < get_or w 0 0 → IsNoPositive w
high-word w h n low small is =
    let first : get_or w 0 0 ≡ get_or (decimal n) 0 0 = ap (λ l. get_or l 0 0) is in
    let numeral = decimal_is_IsNumeral n (omega arith) in
    absurd (omega (arith, digit_at (decimal n) 0 numeral.0.1 numeral.0.0))

-- what is read of a word whose first byte is not that of 0
pub read-positive : (w : List ℕ) (o : Option ℕ) → o ≡ number_of w → 48 < get_or w 0 0 → IsPositiveOf w o
read-positive w None e h = λ n low small is.
    let read : None ≡ Some n = e ∙ ap number_of is ∙ number_of-decimal n small in cc
read-positive w (Some n) e h =
    let is : w ≡ decimal n = (number_of-is w n (sym e)).0 in
    let first : get_or w 0 0 ≡ get_or (decimal n) 0 0 = ap (λ l. get_or l 0 0) is in
    let some : n ≢ 0 = λ none.
    let zero : get_or (decimal n) 0 0 ≡ 48 =
    ap (λ m. get_or (decimal m) 0 0) none ∙ ap (λ l. get_or l 0 0) (decimal_digit 0 (omega arith)) in
    absurd (omega arith) in
    (is, omega arith)

-- a word is the text of one number
pub one-number : (w : List ℕ) (n m : ℕ) → n < 2 ^ 32 → m < 2 ^ 32 → w ≡ decimal n → w ≡ decimal m → n ≡ m
one-number w n m small little is also =
    let read : Some n ≡ Some m =
    sym (number_of-decimal n small) ∙ ap number_of (sym is ∙ also) ∙ number_of-decimal m little in cc

-- a number above 64 is a usage fault
pub many-workers : (given : Option (List ℕ)) (w : List ℕ) (n : ℕ) → given ≡ Some w → w ≡ decimal n
    → n < 2 ^ 32 → 64 < n → IsWorkersOf given (Err Usage)
many-workers None w n e is small many = absurd (cc)
many-workers (Some v) w n e is small many = (
  refl,
  λ m low few also.
      let same : v ≡ w = same_Some v w e in
      let equal : m ≡ n = one-number v m n (omega arith) small also (same ∙ is) in
      absurd (omega arith),
)
