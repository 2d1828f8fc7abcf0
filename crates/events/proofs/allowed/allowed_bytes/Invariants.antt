use Rattle.std.proofs.Common.{◌≡◌, ◌≤◌, ◌+◌, ◌-◌, length, drop}
use Rattle.std.specs.List.{prefix_len}
use Rattle.events.specs.Names.{is_name_byte}
use Rattle.events.proofs.allowed.allowed_bytes.Given as goal

abbrev pub invariant-lanes : goal.invariant-lanes
invariant-lanes l = record {
  within : l.allowed ≤ length l.bytes;
  passed : prefix_len is_name_byte l.bytes ≡ l.allowed + prefix_len is_name_byte (drop l.allowed l.bytes);
}

abbrev pub decreases-lanes : goal.decreases-lanes
decreases-lanes l = length l.bytes - l.allowed
