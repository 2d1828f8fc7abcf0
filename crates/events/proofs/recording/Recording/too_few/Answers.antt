-- The received operation's replica has as many operations as are counted of it.
use Rattle.std.proofs.Common.{◌≡◌, Some, ◌∙◌, sym, refl, arith}
use Rattle.std.proofs.lemmas.Bool.{lt-ltb}
use Rattle.std.proofs.lemmas.Bool.Decides.{nat_tests}
use Rattle.std.proofs.lemmas.List.Sums.{length-filter}
use Rattle.events.specs.History.{stream, is_operation, count_of}
use Rattle.events.specs.Session.{received}
use Rattle.events.proofs.recording.Recording.too_few.Goals as goal
use Rattle.events.proofs.recording.Recording.too_few.Goals.{After-count-have}

found : (c : After-count-have) → received c.args.entry.now.body ≡ Some c.in_ok-seen.seen
found c = sym c.received.ensures ∙ c.in_ok-seen.was

counted : (c : After-count-have)
    → c.count-have.result ≡ count_of c.seen.inside.replica c.args.self.now.entries
counted c = c.count-have.ensures ∙ length-filter is_operation (stream c.args.self.now c.seen.inside.replica)

pub returns-then-have-seen : goal.returns-then-have-seen
returns-then-have-seen c =
    let known = (goal.at.returns-then-have-seen c).After-count-have in
    rw (found known, ← c.seen.view_is, ← counted known) (lt-ltb _ _ (omega arith), refl)

pub returns-else-have-seen : goal.returns-else-have-seen
returns-else-have-seen c =
    let known = (goal.at.returns-else-have-seen c).After-count-have in
    rw (found known, ← c.seen.view_is, ← counted known) (grind (arith, nat_tests))
