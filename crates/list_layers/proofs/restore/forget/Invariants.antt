use Rattle.std.proofs.Common.{◌≡◌, ◌≢◌, ℕ, ◌<◌, slice_index, vec_len}
use Rattle.list_layers.specs.Progress.{IsSeen}
use Rattle.list_layers.proofs.restore.forget.Given as goal

abbrev pub invariant-loop-x : goal.invariant-loop-x
invariant-loop-x l = record {
  places : vec_len l.seen ≡ vec_len l.fn.seen;
  left : (x : ℕ) → IsSeen l.seen.items x
      → IsSeen l.fn.seen.items x × ((i : ℕ) → i < l.x-index → slice_index l.layer i ≢ x);
}
