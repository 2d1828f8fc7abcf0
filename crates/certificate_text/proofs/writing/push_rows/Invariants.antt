use Rattle.std.proofs.Common.{◌≡◌, ◌++◌, map, take}
use Rattle.specification.specs.Lines.{text_of}
use Rattle.specification.specs.CertificateText.{row_line}
use Rattle.certificate_text.proofs.writing.push_rows.Given as goal

abbrev pub invariant-loop-i : goal.invariant-loop-i
invariant-loop-i l = l.text.items ≡ l.fn.text.items ++ text_of (map row_line (take l.i l.layers))
