use Rattle.std.proofs.Common.{ℕ, ◌<◌, slice_index}
use Rattle.std.specs.Prelude.{◌↔◌, Contains}
use Rattle.list_rule.proofs.tests.noted_of.Given as goal

abbrev pub invariant-loop-x : goal.invariant-loop-x
invariant-loop-x l = (y : ℕ) → Contains l.noted.items y ↔ ((y < l.x) × (slice_index l.depths y < l.count))
