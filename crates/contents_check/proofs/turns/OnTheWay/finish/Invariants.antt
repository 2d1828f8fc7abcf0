use Rattle.std.proofs.Common.{◌≡◌, ◌≤◌, None}
use Rattle.contents_check.specs.Turns.{IsOnTheWay}
use Rattle.contents_check.proofs.turns.OnTheWay.finish.Given as goal

abbrev pub invariant-loop : goal.invariant-loop
invariant-loop l = record {
  replica : l.self.replica ≡ l.fn.self.replica;
  on_the_way : IsOnTheWay l.recording l.sight l.elements l.self;
  judged : l.self.fault ≡ None → l.counter ≤ l.self.judged;
}
