use Rattle.std.proofs.Common.{◌≡◌, ℕ, ◌<◌, slice_index, vec_len}
use Rattle.std.specs.Prelude.{Contains}
use Rattle.element_numbers.specs.Cuts.{rows_of}
use Rattle.list_rule.specs.Spots.{IsSpotIn, Stands, row, spots_at}
use Rattle.list_rule.specs.declared.spot.Spot.{Spot}
use Rattle.list_rule.proofs.spots.all_spots.Given as goal

abbrev pub invariant-loop-list : goal.invariant-loop-list
invariant-loop-list l = record {
  count : vec_len l.spots ≡ l.n;
  only : (x : ℕ) (q : Spot) → Contains (spots_at l.spots.items x) q
      → (m : ℕ) × (m < l.list-index)
      × IsSpotIn (slice_index l.list-items m) (row (rows_of l.places) (slice_index l.list-items m)) x q;
  all : (m p x : ℕ) → m < l.list-index → Stands (rows_of l.places) (slice_index l.list-items m) p x
      → Contains (spots_at l.spots.items x) (record { list = slice_index l.list-items m; place = p });
}
