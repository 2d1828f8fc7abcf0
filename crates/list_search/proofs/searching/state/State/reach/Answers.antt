use Rattle.std.proofs.Common.{◌≡◌, ◌<◌, false, get_or, length, refl, arith}
use Rattle.std.proofs.lemmas.Grind.{common_steps}
use Rattle.list_search.proofs.Reach.{queued_more, reached_last, tail_within}
use Rattle.list_search.proofs.searching.state.State.reach.Goals as goal

unseen : (c : goal.After-self-3-1) → get_or c.args.self.now.seen.items c.args.y false ≡ false
unseen c = grind (arith, common_steps)

known : (c : goal.After-self-3-1) → c.args.y < length c.args.self.now.seen.items
known c = let h = c.requires.known in omega arith

pub returns-clause-queued : goal.returns-clause-queued
returns-clause-queued c = (queued_more c.args.y c.args.self.now c.requires.queued (known c) (unseen c), refl)

pub returns-clause-reached : goal.returns-clause-reached
returns-clause-reached c =
    reached_last c.args.y c.args.self.now
    (tail_within c.args.y c.args.self.now c.requires.queued (known c) (unseen c))
