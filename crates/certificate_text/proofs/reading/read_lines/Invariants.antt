use Rattle.std.proofs.Common.{◌≡◌, ◌+◌, ◌≤◌, ◌++◌, length}
use Rattle.specification.specs.Lines.{text_of}
use Rattle.certificate_text.specs.Progress.{IsRight, good}
use Rattle.certificate_text.proofs.reading.read_lines.Given as goal

abbrev pub invariant-loop-rest : goal.invariant-loop-rest
invariant-loop-rest l = record {
  text : l.fn.bytes ≡ text_of (good l.progress) ++ l.rest;
  number : l.line ≡ length (good l.progress) + 1;
  small : l.line + length l.rest ≤ length l.fn.bytes + 1;
  right : IsRight l.progress;
}

abbrev pub decreases-loop-rest : goal.decreases-loop-rest
decreases-loop-rest l = length l.rest
