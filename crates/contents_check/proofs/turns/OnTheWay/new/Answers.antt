-- No operation is judged.
use Rattle.std.proofs.Common.{arith}
use Rattle.contents_check.proofs.Firsts.{right_none}
use Rattle.contents_check.proofs.turns.OnTheWay.new.Goals as goal

pub returns-clause-on_the_way : goal.returns-clause-on_the_way
returns-clause-on_the_way c =
    λ h table. (omega arith, right_none h c.args.replica, c.in_ok-walk.ensures h table c.args.replica)
