use Rattle.std.proofs.Common.{◌≡◌, ℕ, ◌<◌, ◌≤◌, get_or, vec_len}
use Rattle.list_rule.specs.Marks.{IsFirstMark, IsNoted, mark_at}
use Rattle.list_rule.specs.declared.spot.Spot.{Spot}
use Rattle.list_rule.proofs.marks.begin_row.Given as goal

abbrev pub invariant-loop-spot : goal.invariant-loop-spot
invariant-loop-spot l = record {
  count : vec_len l.state.marks ≡ vec_len l.fn.state.marks;
  rows : (m : ℕ) → (mark_at l.state.marks.items m).row ≤ l.state.row;
  marks : (m : ℕ) → (mark_at l.state.marks.items m).row ≡ l.state.row
      → IsFirstMark l.spots m (mark_at l.state.marks.items m);
  noted : (i : ℕ) (q : Spot) → i < l.spot-index → get_or l.spots i q ≡ q → IsNoted l.state q;
}
