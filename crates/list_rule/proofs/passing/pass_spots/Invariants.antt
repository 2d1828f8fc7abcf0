use Rattle.std.proofs.Common.{◌≡◌, ℕ, ◌<◌, get_or}
use Rattle.element_numbers.specs.Cuts.{rows_of}
use Rattle.list_rule.specs.Judging.{AreMarks, IsJudging, IsRightBehind, asked}
use Rattle.list_rule.specs.declared.spot.Spot.{Spot}
use Rattle.list_rule.proofs.passing.pass_spots.Given as goal

abbrev pub invariant-loop-spot : goal.invariant-loop-spot
invariant-loop-spot l = record {
  fits : AreMarks (rows_of l.places) l.state;
  judging : (source : ℕ)
      → IsJudging (asked (rows_of l.places) l.depths l.most l.first source) l.spots l.bound l.fn.state
      → IsJudging (asked (rows_of l.places) l.depths l.most l.first source) l.spots l.bound l.state;
  right : (source : ℕ)
      → IsJudging (asked (rows_of l.places) l.depths l.most l.first source) l.spots l.bound l.fn.state
      → (i : ℕ) (q : Spot) → i < l.spot-index → get_or l.these i q ≡ q
      → IsRightBehind (asked (rows_of l.places) l.depths l.most l.first source) l.bound q;
}
