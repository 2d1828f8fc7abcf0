-- The number of workers that a word of the command line gives.
use Rattle.std.specs.Prelude.{◌≡◌, ◌≢◌, ℕ, ◌≤◌, ◌<◌, ◌^◌, Option, None, Some, MatchOption, Result}
use Rattle.std.specs.Prelude.{MatchResult, List, decimal}
use Rattle.command_line.specs.declared.words.WordsFault.{WordsFault}
use Rattle.command_line.specs.declared.words.WordsFault.TheVariants.{Usage}

-- the number from 1 below 2 ^ 32 whose decimal text the word is, or that it is no such text
abbrev pub IsPositiveOf : List ℕ → Option ℕ → Type 0
IsPositiveOf word number =
    MatchOption number ((n : ℕ) → 1 ≤ n → n < 2 ^ 32 → word ≢ decimal n) (λ n. (word ≡ decimal n) × (1 ≤ n))

-- four where no word is given; else the number from 1 to 64 that it is, and a usage fault where it is none
abbrev pub IsWorkersOf : Option (List ℕ) → Result ℕ WordsFault → Type 0
IsWorkersOf None answer = MatchResult answer (λ n. n ≡ 4) (λ _. ⊥)
IsWorkersOf (Some word) answer =
    MatchResult answer (λ n. (word ≡ decimal n) × (1 ≤ n) × (n ≤ 64))
    (λ fault. (fault ≡ Usage) × ((n : ℕ) → 1 ≤ n → n ≤ 64 → word ≢ decimal n))
