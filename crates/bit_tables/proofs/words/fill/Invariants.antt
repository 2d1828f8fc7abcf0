use Rattle.std.proofs.Common.{◌≡◌, ℕ, ◌-◌, ◌^◌, ◌<◌, ◌≤◌, get_or}
use Rattle.bit_tables.proofs.words.fill.Given as goal

abbrev pub invariant-words : goal.invariant-words
invariant-words l = record {
  full : (j : ℕ) → j < l.k → get_or l.words j 0 ≡ 2 ^ 64 - 1;
  rest : (j : ℕ) → l.k ≤ j → get_or l.words j 0 ≡ get_or l.fn.words j 0;
}
