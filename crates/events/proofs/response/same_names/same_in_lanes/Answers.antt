-- The least bit that is set is that of the first byte that differs.
use Rattle.std.proofs.Common.{◌∙◌, sym, subst, arith}
use lib.Count.{count_trailing_zeros}
use Rattle.events.specs.SameNames.{AreSame}
use Rattle.events.proofs.SameLanes.{none, some}
use Rattle.events.proofs.response.same_names.same_in_lanes.Goals as goal

pub returns-then-marks-eq0 : goal.returns-then-marks-eq0
returns-then-marks-eq0 c =
    none 16 c.args.a.now c.args.b.now c.requires.0 c.requires.1 (omega arith) (sym c.differing-marks.ensures
    ∙ c.if-marks-eq0.true)

pub returns : goal.returns
returns c =
    subst (λ m. AreSame c.args.a.now c.args.b.now 16 (count_trailing_zeros 64 m))
    (sym c.differing-marks.ensures)
    (some 16 c.args.a.now c.args.b.now c.requires.0 c.requires.1 (omega arith)
    (λ e. c.if-marks-eq0.false (c.differing-marks.ensures ∙ e)))
