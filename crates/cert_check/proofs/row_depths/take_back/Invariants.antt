use Rattle.std.proofs.Common.{◌≡◌, length}
use Rattle.cert_check.proofs.RowNumbers.{AreLeft}
use Rattle.cert_check.proofs.row_depths.take_back.Given as goal

abbrev pub invariant-loop-number : goal.invariant-loop-number
invariant-loop-number l = record {
  len : length l.depths ≡ length l.fn.depths;
  left : AreLeft l.number-index l.noted l.unset l.depths;
}
