-- The bytes of a name are ASCII.
use Rattle.std.proofs.Common.{◌≡◌, ℕ, ◌<◌, true, List, length, All, arith, inl, inr}
use Rattle.std.specs.Str.{IsAscii}
use Rattle.std.proofs.lemmas.Bool.{cases_lt}
use Rattle.std.proofs.lemmas.List.{get_or_past}
use Rattle.std.proofs.lemmas.Bool.Decides.{nat_tests}
use Rattle.std.proofs.lemmas.List.Elements.{All-get_or, All-weaker}
use Rattle.std.proofs.lemmas.List.Sums.{AllPass-from_list_all}
use Rattle.events.specs.Names.{NameBytes, IsName, is_name_byte}

ascii-byte : (b : ℕ) → is_name_byte b ≡ true → b < 128
ascii-byte b h = grind (arith, nat_tests, h)

pub ascii-name : (a : NameBytes) → IsName a → All (λ b. b < 128) a
ascii-name a h =
    All-weaker (λ b. is_name_byte b ≡ true) (λ b. b < 128) ascii-byte a
    (AllPass-from_list_all is_name_byte a h.each_byte)

pub ascii : (bytes : List ℕ) → All (λ b. b < 128) bytes → IsAscii bytes
ascii bytes all i = elim (cases_lt i (length bytes)) [
  | inl within ↦ All-get_or (λ b. b < 128) bytes i 0 within all
  | inr past ↦ rw (get_or_past bytes i 0 past) (omega arith)
]
