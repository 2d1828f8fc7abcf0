use Rattle.std.proofs.Common.{take}
use Rattle.std.specs.Io.KnownBytes.{Appends}
use Rattle.certificate.specs.ByRows.{joined}
use Rattle.engines.proofs.Failures.{IsWritten}
use Rattle.engines.proofs.output.write_texts.Given as goal

abbrev pub invariant-loop-text : goal.invariant-loop-text
invariant-loop-text g l = record {
  appended : Appends l.fn.sink.bytes l.sink.bytes (joined (take l.text-index l.texts));
  writes : IsWritten l.fn.sink l.sink;
}
