use Rattle.std.proofs.Common.{◌≡◌, ℕ, ◌<◌, ◌⊎◌, slice_index, vec_len}
use Rattle.std.specs.Prelude.{Contains}
use Rattle.list_rule.specs.Spots.{IsSpotIn, spots_at}
use Rattle.list_rule.specs.declared.spot.Spot.{Spot}
use Rattle.list_rule.proofs.spots.add_list.Given as goal

abbrev pub invariant-loop-place : goal.invariant-loop-place
invariant-loop-place l = record {
  count : vec_len l.spots ≡ vec_len l.fn.spots;
  old : (x : ℕ) (q : Spot) → Contains (spots_at l.fn.spots.items x) q → Contains (spots_at l.spots.items x) q;
  new : (p : ℕ) → p < l.place
      → Contains (spots_at l.spots.items (slice_index l.row p)) (record { list = l.list; place = p });
  only : (x : ℕ) (q : Spot) → Contains (spots_at l.spots.items x) q
      → Contains (spots_at l.fn.spots.items x) q ⊎ IsSpotIn l.list l.row x q;
}
