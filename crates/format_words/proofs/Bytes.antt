-- Bytes that do not stand in a text.
use Rattle.std.proofs.Common.{◌≡◌, ◌≢◌, ℕ, ◌<◌, ◌^◌, ◌==◌, true, false, not, List, ◌++◌, get_or, decimal}
use Rattle.std.proofs.Common.{arith, inl, inr}
use Rattle.std.specs.List.{All, list_all}
use Rattle.std.proofs.lemmas.List.Elements.{All-weaker, All-from_get_or, All-append}
use Rattle.std.proofs.lemmas.List.Sums.{AllPass-from_list_all}
use Rattle.std.proofs.lemmas.Bool.{cases_eq, not-true}
use Rattle.std.proofs.lemmas.Bool.Decides.{nat_tests}
use Rattle.std.proofs.lemmas.Str.Parse.{digit_at}
use Rattle.std.proofs.lemmas.Fmt.{decimal_is_IsNumeral}
use Rattle.events.specs.Names.{NameBytes, IsName, is_name_byte}

-- the byte stands nowhere in it
abbrev pub Lacks : ℕ → List ℕ → Type 0
Lacks c w = All (λ b. (b == c) ≡ false) w

other : (b c : ℕ) → b ≢ c → (b == c) ≡ false
other b c ne = grind (arith, nat_tests)

name-byte : (c b : ℕ) → is_name_byte c ≡ false → is_name_byte b ≡ true → (b == c) ≡ false
name-byte c b out h =
    elim (cases_eq b c) [
      | inl e ↦ absurd (let bad : is_name_byte c ≡ true = rw e at h in cc bad)
      | inr ne ↦
          other b c ne
    ]

pub lacks-name : (c : ℕ) (a : NameBytes) → is_name_byte c ≡ false → IsName a → Lacks c a
lacks-name c a out h =
    All-weaker (λ b. is_name_byte b ≡ true) (λ b. (b == c) ≡ false) (λ b. name-byte c b out) a
    (AllPass-from_list_all is_name_byte a h.each_byte)

pub lacks-number : (c n : ℕ) → c < 48 → n < 2 ^ 32 → Lacks c (decimal n)
lacks-number c n low small =
    let numeral = decimal_is_IsNumeral n (omega arith) in
    All-from_get_or (λ b. (b == c) ≡ false) (decimal n) 0 (λ i l. other (get_or (decimal n) i 0) c
    (λ e. absurd (omega (arith, digit_at (decimal n) i numeral.0.1 l, e))))

pub lacks-literal : (c : ℕ) (w : List ℕ) → list_all (λ b. not (b == c)) w ≡ true → Lacks c w
lacks-literal c w h =
    All-weaker (λ b. not (b == c) ≡ true) (λ b. (b == c) ≡ false) (λ b k. not-true (b == c) k) w
    (AllPass-from_list_all (λ b. not (b == c)) w h)

pub lacks-both : (c : ℕ) (v w : List ℕ) → Lacks c v → Lacks c w → Lacks c (v ++ w)
lacks-both c v w h k = All-append (λ b. (b == c) ≡ false) v w h k
