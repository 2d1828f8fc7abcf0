use Rattle.std.proofs.Common.{◌∙◌, rules}
use Rattle.level_search.proofs.Teams.{settled}
use Rattle.level_search.proofs.workers.closed.Goals as goal

-- each source was claimed once
pub returns : goal.returns
returns c =
    let e = c.close.ensures in
    let all = e.claimed.3 c.requires.first.3 in
    record {
      least = settled _ c.requires.proper _ _ _ c.args.first _ c.requires.count c.requires.met e.low
          c.requires.honest (rw all at e.claimed.2) (rw c.requires.count at e.run.1);
      low = search rules;
      offer = e.least;
      claimed = rw (all ∙ c.requires.count) at e.claimed.2;
    }
