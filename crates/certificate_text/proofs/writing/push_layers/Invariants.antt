use Rattle.std.proofs.Common.{◌≡◌, ◌++◌, take}
use Rattle.specification.specs.CertificateText.{layers_text}
use Rattle.certificate_text.proofs.writing.push_layers.Given as goal

abbrev pub invariant-loop-i : goal.invariant-loop-i
invariant-loop-i l = l.text.items ≡ l.fn.text.items ++ layers_text (take l.i l.row)
