use Rattle.std.proofs.Common.{map, take}
use Rattle.std.specs.Prelude.{slice_index}
use Rattle.cert_check.proofs.ValueTests.{RiseTo}
use Rattle.cert_check.proofs.values.is_rising.Given as goal

abbrev pub invariant-loop-place : goal.invariant-loop-place
invariant-loop-place l = RiseTo (map (slice_index l.values) (take l.place-index l.places)) l.least
