use Rattle.std.proofs.Common.{◌+◌, subst, arith}
use Rattle.list_rule.specs.Marks.{IsBegun}
use Rattle.list_rule.proofs.Marking.{begun, deeper}
use Rattle.list_rule.proofs.passing.set_depth.Goals as goal

pub returns-then-depth-last : goal.returns-then-depth-last
returns-then-depth-last c = record {
  judging = λ a n all are short source is.
      begun n a all (c.args.depth + 1) c.args.state.now c.begin_row.new.state are short
      (let count = is.fits.count in omega (arith, c.args.state.now.marks.ok, count))
      (subst (λ qs. IsBegun qs c.args.state.now c.begin_row.new.state) source c.begin_row.ensures);
}

pub returns-else-depth-last : goal.returns-else-depth-last
returns-else-depth-last c = record {
  judging = λ a n all are short source is.
      deeper a all (c.args.last + 1) (c.args.depth + 1) c.args.state.now (omega arith) is;
}
