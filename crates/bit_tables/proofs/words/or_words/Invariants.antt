use Rattle.std.proofs.Common.{◌≡◌, ℕ, ◌<◌, ◌≤◌, get_or, length}
use Rattle.std.specs.Prelude.{bit_or}
use Rattle.bit_tables.proofs.words.or_words.Given as goal

abbrev pub invariant-words : goal.invariant-words
invariant-words l =
    (length l.into ≡ length l.fn.into)
    × ((j : ℕ) → l.first ≤ j → j < l.k
    → get_or l.into j 0 ≡ bit_or (get_or l.fn.into j 0) (get_or l.other j 0))
    × ((j : ℕ) → l.k ≤ j → get_or l.into j 0 ≡ get_or l.fn.into j 0)
