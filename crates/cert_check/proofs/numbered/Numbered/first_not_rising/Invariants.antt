use Rattle.std.proofs.Common.{ℕ, ◌<◌, map}
use Rattle.std.specs.Prelude.{slice_index}
use Rattle.cert_check.specs.Values.{IsRising}
use Rattle.cert_check.specs.Numbering.{places_at}
use Rattle.cert_check.proofs.numbered.Numbered.first_not_rising.Given as goal

abbrev pub invariant-loop-i : goal.invariant-loop-i
invariant-loop-i l = (j : ℕ) → j < l.i → IsRising (map (slice_index l.values) (places_at l.self j))
