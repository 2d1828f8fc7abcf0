use Rattle.std.proofs.Common.{length, ◌-◌, ◌≡◌, ◌≤◌, true, false, take}
use Rattle.std.specs.Io.KnownBytes.{Appends}
use Rattle.byte_streams.proofs.Calls.{WrittenSoFar}
use Rattle.byte_streams.proofs.sink.Sink.write_whole.Given as goal

abbrev pub invariant-loop-at : goal.invariant-loop-at
invariant-loop-at g l = record {
  within : l.at ≤ length l.bytes;
  written : Appends l.fn.self.bytes l.self.bytes (take l.at l.bytes);
  still : l.self.failed ≡ l.fn.self.failed;
  closed : l.fn.self.failed ≡ true → l.at ≡ 0;
  first : l.at ≡ 0 → l.self ≡ l.fn.self;
  writes : l.fn.self.failed ≡ false → WrittenSoFar l.fn.self l.self (take l.at l.bytes);
}

abbrev pub decreases-loop-at : goal.decreases-loop-at
decreases-loop-at g l = length l.bytes - l.at
