-- The next operation is judged, where there is one and no fault.
use Rattle.std.proofs.Common.{◌≡◌, ◌∙◌, sym, arith}
use Rattle.std.specs.Option.{is_some}
use Rattle.std.specs.Prelude.{false}
use Rattle.contents_check.proofs.InTurns.{judged_next, no_fault}
use Rattle.contents_check.proofs.turns.OnTheWay.go_on.Goals as goal

pub returns-clause-on_the_way : goal.returns-clause-on_the_way
returns-clause-on_the_way c =
    let h = c.args.recording.now in
    let table = c.args.sight.now in
    let elements = c.args.elements.now in
    let old = c.args.self.now in
    let none : is_some old.fault ≡ false = sym c.is_some.ensures ∙ c.if-is_some.false in
    judged_next h table elements old.replica old.judged old.walk c.judge.new.self c.in_ok-self.field-0
    (omega (arith, c.if-self-count.false, c.count.ensures))
    (no_fault h table elements old.replica old.judged old.walk old.fault none c.requires.on_the_way)
    c.in_ok-self.ensures
