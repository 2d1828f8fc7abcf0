use Rattle.std.proofs.Common.{◌≡◌, ◌-◌, ◌≤◌, [], true, false}
use Rattle.std.specs.Io.KnownBytes.{Consumes}
use Rattle.byte_streams.specs.Streams.{IsClosed, IsOpen}
use Rattle.byte_streams.specs.declared.source.TheConstants.{READS}
use Rattle.byte_streams.proofs.Calls.{ReadSoFar}
use Rattle.byte_streams.proofs.source.Source.whole.Given as goal

abbrev pub invariant-loop-n : goal.invariant-loop-n
invariant-loop-n g l = record {
  bytes : Consumes l.fn.self.bytes l.self.bytes l.all.items;
  closed : IsClosed l.fn.self → l.self ≡ l.fn.self;
  ended : l.fn.self.ended ≡ true → (l.self ≡ l.fn.self) × (l.all.items ≡ []);
  still : IsOpen l.fn.self → (l.self.failed ≡ false) × (l.self.ended ≡ false) × (l.self.reads ≤ READS);
  reads : IsOpen l.fn.self → ReadSoFar l.fn.self l.self l.all.items;
}

abbrev pub decreases-loop-n : goal.decreases-loop-n
decreases-loop-n g l = READS - l.self.reads
