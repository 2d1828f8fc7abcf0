use Rattle.std.proofs.Common.{◌≡◌, ℕ, Some, [], vec_len}
use Rattle.std.specs.Prelude.{slice_get}
use Rattle.events.specs.Lanes.{IsLaneOf}
use Rattle.events.specs.declared.lane.Lane.{Lane}
use Rattle.events.proofs.recording.empty_lanes.Given as goal

abbrev pub invariant-loop : goal.invariant-loop
invariant-loop l = record {
  len : vec_len l.lanes ≡ l.counter;
  empty : (r : ℕ) (lane : Lane) → slice_get l.lanes.items r ≡ Some lane → IsLaneOf [] [] lane;
}
