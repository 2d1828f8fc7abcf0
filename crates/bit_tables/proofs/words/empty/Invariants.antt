use Rattle.std.proofs.Common.{◌≡◌, ℕ, ◌<◌, get_or}
use Rattle.bit_tables.proofs.words.empty.Given as goal

abbrev pub invariant-loop-word : goal.invariant-loop-word
invariant-loop-word l = (j : ℕ) → j < l.word-index → get_or l.words j 0 ≡ 0
