use Rattle.std.proofs.Common.{◌≡◌, ◌++◌, length}
use Rattle.specification.specs.Lines.{text_of}
use Rattle.specification.specs.TraceText.{BeginsSpelling}
use Rattle.trace_text.specs.Progress.{good}
use Rattle.trace_text.proofs.pieces.read_lines.Given as goal

abbrev pub invariant-loop-line : goal.invariant-loop-line
invariant-loop-line l = record {
  right : BeginsSpelling (good l.fn.reading) → BeginsSpelling (good l.reading);
  whole : text_of (good l.fn.reading) ++ l.fn.piece ≡ text_of (good l.reading) ++ l.rest;
}

abbrev pub decreases-loop-line : goal.decreases-loop-line
decreases-loop-line l = length l.rest
