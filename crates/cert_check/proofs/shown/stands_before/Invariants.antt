use Rattle.std.proofs.Common.{take}
use Rattle.std.specs.Prelude.{◌↔◌, IsTrue}
use Rattle.specification.proofs.Members.{In, Before}
use Rattle.cert_check.proofs.shown.stands_before.Given as goal

abbrev pub invariant-loop-i : goal.invariant-loop-i
invariant-loop-i l = record {
  has : IsTrue l.has_from ↔ In l.from (take l.i l.response);
  none : ¬ Before l.from l.to (take l.i l.response);
}
