use Rattle.std.proofs.Common.{◌≡◌, ℕ, ◌<◌, ◌≤◌, slice_index, vec_len}
use Rattle.level_search.proofs.lower_bounds.take_bounds.Given as goal

abbrev pub invariant-loop-x : goal.invariant-loop-x
invariant-loop-x l = record {
  count : vec_len l.levels ≡ vec_len l.fn.levels;
  low : (y : ℕ) → y < l.x → slice_index l.levels.items y ≤ l.bound;
  others : (y : ℕ) → y < l.x → 0 < slice_index l.fn.levels.items y → slice_index l.levels.items y ≡ 0;
  left : (y : ℕ) → l.x ≤ y → slice_index l.levels.items y ≡ slice_index l.fn.levels.items y;
}
