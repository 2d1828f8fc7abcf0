use Rattle.std.proofs.Common.{◌≡◌, ◌+◌, ◌≤◌, List, ◌++◌, length, map}
use Rattle.std.specs.List.{All}
use Rattle.specification.specs.LayerRule.{Row}
use Rattle.specification.specs.Lines.{text_of}
use Rattle.specification.specs.CertificateText.{IsRow, row_line}
use Rattle.certificate_text.proofs.outline.check_some_rows.Given as goal

abbrev pub invariant-loop-rest : goal.invariant-loop-rest
invariant-loop-rest l = record {
  rows : (rows : List Row) × (l.line ≡ length rows + l.fn.k + 3) × All (IsRow l.fn.k) rows
      × (l.fn.text ≡ text_of (map row_line rows) ++ l.rest);
  small : l.line + length l.rest ≤ l.fn.k + 3 + length l.fn.text;
}

abbrev pub decreases-loop-rest : goal.decreases-loop-rest
decreases-loop-rest l = length l.rest
