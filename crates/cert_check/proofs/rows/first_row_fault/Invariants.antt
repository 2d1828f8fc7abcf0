use Rattle.std.proofs.Common.{◌≡◌, ◌-◌, List, map, drop, length}
use Rattle.std.specs.Prelude.{All}
use Rattle.events.specs.History.{History}
use Rattle.specification.specs.LayerRule.{Row}
use Rattle.specification.specs.Lines.{text_of}
use Rattle.specification.specs.CertificateText.{IsRow, row_line}
use Rattle.specification.specs.Responses.{responses_of}
use Rattle.specification.specs.ValidCertificate.{RowsRightBefore}
use Rattle.certificate_text.specs.CertificateOf.{version_in}
use Rattle.cert_check.specs.Numbering.{AreWays, IsOf}
use Rattle.cert_check.specs.RowDepths.{IsUnset}
use Rattle.cert_check.proofs.rows.first_row_fault.Given as goal

abbrev pub invariant-loop-i : goal.invariant-loop-i
invariant-loop-i l = record {
  fresh : IsUnset (length l.numbered.names.items) (l.k - 1) l.depths;
  ways : AreWays l.numbered l.ways;
  judged : (layers : List Row) → All (IsRow l.k) layers → l.rows ≡ text_of (map row_line layers) →
      (l.rest ≡ text_of (map row_line (drop l.i layers)))
      × ((h : History) → IsOf h l.numbered
      → RowsRightBefore (version_in l.version) (responses_of h) l.k layers l.i);
}
