use Rattle.std.proofs.Common.{◌≡◌, ◌-◌, ◌≤◌, length}
use Rattle.events.proofs.FirstNames.{Taken}
use Rattle.events.proofs.response.words.first_names.Given as goal

abbrev pub invariant-names : goal.invariant-names
invariant-names l = record {
  few : l.names ≤ 64;
  room : length l.ends ≡ 64;
  taken : Taken l.text l.ends l.names l.bytes;
}

abbrev pub decreases-names : goal.decreases-names
decreases-names l = 64 - l.names
