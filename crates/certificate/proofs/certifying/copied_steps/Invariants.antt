use Rattle.std.proofs.Common.{◌≡◌, take}
use Rattle.certificate.proofs.certifying.copied_steps.Given as goal

abbrev pub invariant-loop-i : goal.invariant-loop-i
invariant-loop-i l = l.copies.items ≡ take l.i l.steps
