use Rattle.std.proofs.Common.{◌≡◌, ◌+◌, ◌-◌, ◌++◌, length, map, take, drop}
use Rattle.events.proofs.response.runs.move_ends.Given as goal

abbrev pub invariant-loop-k : goal.invariant-loop-k
invariant-loop-k l = record {
  size : length l.ends ≡ length l.fn.ends;
  items : l.ends ≡ map (λ end. l.begin + (end - l.from)) (take l.k l.fn.ends) ++ drop l.k l.fn.ends;
}
