-- How a stream fails in a call, apart from how it was handed in.
use Rattle.std.specs.Prelude.{◌≡◌, ◌≤◌, ◌⊎◌, ◌+◌, true, false, List, length}
use Rattle.byte_streams.specs.Streams.{SourceState, SinkState, ReadCall, WriteCall, IsClosed, IsOpen, Makes}
use Rattle.byte_streams.specs.Streams.{HaveCome, EndInFailure, EndInRefusal}

-- of these reads the last failed and each before it gave something; or each did, and they reached the limit
abbrev pub ReadsInVain : SourceState → SourceState → Type 0
ReadsInVain before after =
    (calls : List ReadCall) × Makes before.calls after.calls calls
    × (after.reads ≡ before.reads + length calls)
    × (EndInFailure calls ⊎ (HaveCome calls × (after.reads ≡ 268435456)))

-- a source that was handed in open is closed by a read of this call that failed, or by the limit of reads;
-- one that was handed in closed is left alone; and none was at its end
pub record FailsToRead (before after : SourceState) : Type 0 where
  pub closes : IsClosed after
  pub ended : before.ended ≡ false
  pub vain : IsOpen before → ReadsInVain before after
  pub closed : IsClosed before → after ≡ before

-- each read gave something, and they came to no end
pub record HasReadOn (before after : SourceState) : Type 0 where
  pub ready : IsOpen before
  pub failed : after.failed ≡ false
  pub ended : after.ended ≡ false
  pub limit : after.reads ≤ 268435456
  pub calls : List ReadCall
  pub made : Makes before.calls after.calls calls
  pub count : after.reads ≡ before.reads + length calls
  pub came : HaveCome calls

-- of these writes the last failed or took no byte, and no other
abbrev pub WritesInVain : SinkState → SinkState → Type 0
WritesInVain before after =
    (after.failed ≡ true) × ((calls : List WriteCall) × Makes before.calls after.calls calls
    × EndInRefusal calls)

-- a sink that was handed in open is closed by a write of this call; one that was handed in closed is left
-- alone
pub record FailsToWrite (before after : SinkState) : Type 0 where
  pub vain : before.failed ≡ false → WritesInVain before after
  pub closed : before.failed ≡ true → after ≡ before
