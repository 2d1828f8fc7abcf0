use Rattle.std.proofs.Common.{◌≡◌, ◌<◌, [], ◌∷◌, ◌++◌, length, arith}
use Rattle.std.proofs.lemmas.Grind.{common_steps}
use Rattle.list_rule.proofs.Pushing.{pushed_here, pushed_other}
use Rattle.list_rule.proofs.spots.add_spot.Goals as goal

pub returns-clause-here : goal.returns-clause-here
returns-clause-here c =
    let spots = c.args.spots.now.items in
    let known : c.args.x < length spots = omega arith in
    let pushed : c.push.new.self.items ≡ c.index_mut.result.now.items ++ c.args.spot ∷ [] =
    grind (arith, common_steps, c.in_ok-push.ensures.items) in
    pushed_here spots c.args.x c.index_mut.result.now c.push.new.self c.args.spot known
    c.index_mut.ensures.value pushed

pub returns-clause-others : goal.returns-clause-others
returns-clause-others c = λ y other. pushed_other c.args.spots.now.items c.args.x c.push.new.self y other
