-- What the watcher hands back, and what is known of its verdicts in the end.
use Rattle.std.specs.Prelude.{◌≡◌, ◌≢◌, ℕ, List, [], length, IfOk, IfErr}
use Rattle.events.specs.History.{History}
use Rattle.events.specs.declared.entry.Entry.{Entry}
use Rattle.verdict.specs.declared.verdict.Verdict.{Verdict}
use Rattle.level_search.specs.declared.search_fault.SearchFault.TheVariants as search
use Rattle.sessions.specs.Prefixes.{HasPrefix}
use Rattle.sessions.specs.Shown.{ObserverShown}
use Rattle.sessions.specs.Watches.{AreVerdicts}
use Rattle.rehearsal.specs.declared.watcher.Watched.{Watched}

-- four verdicts, each on a list of entries of which the list before is a prefix: the first list begins with
-- what the observer had seen, and the last is what it has seen
pub record HasJudged (old : ObserverShown) (verdicts : List Verdict) (new : ObserverShown) : Type 0 where
  pub session : new.session ≡ old.session
  pub count : length verdicts ≡ 4
  pub verdicts_are : AreVerdicts old.session.replicas old.seen verdicts new.seen

-- the observer comes back; and the verdicts do, or the watch failed, and not for its number of workers
pub record HasWatched (old : ObserverShown) (watched : Watched) : Type 0 where
  pub session : watched.observer.session ≡ old.session
  pub judged : IfOk watched.answer (λ verdicts. HasJudged old verdicts watched.observer)
  pub failed : IfErr watched.answer (λ fault. fault ≢ search.Workers)

-- four verdicts on lists of entries, each list a prefix of the next, and the last of what was recorded in the
-- end
pub record WasWatched (closed : History) (verdicts : List Verdict) : Type 0 where
  pub last : List Entry
  pub count : length verdicts ≡ 4
  pub verdicts_are : AreVerdicts closed.replicas [] verdicts last
  pub begins : HasPrefix closed.entries last
