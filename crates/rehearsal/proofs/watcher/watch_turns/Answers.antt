use Rattle.std.proofs.Common.{◌≡◌, ◌∙◌, sym}
use Rattle.rehearsal.proofs.Watched.{judged-of, failed-of}
use Rattle.rehearsal.proofs.watcher.watch_turns.Goals as goal

pub returns : goal.returns
returns g c = record {
  session = c.watch-answer.ensures.session ∙ sym c.requires.session;
  judged =
      judged-of c.args.observer c.watch-answer.new.observer c.args.session.now c.watch-answer.result
      c.requires.session c.watch-answer.ensures.session
      c.watch-answer.ensures.turns c.watch-answer.ensures.verdicts;
  failed = failed-of c.args.workers c.watch-answer.result c.requires.workers c.watch-answer.ensures.workers;
}
