-- Once it is noted what the response shows, it shows what is live where it has what it must.
use Rattle.std.proofs.Common.{◌∙◌, sym}
use Rattle.std.proofs.lemmas.Bool.{false≢true}
use Rattle.specification.specs.Faults.{IsView}
use Rattle.contents_check.proofs.Noting.{shows_live, has_what_it_must, shows_known}
use Rattle.contents_check.proofs.Showings.{noted-of, showing-of, wrong-of}
use Rattle.contents_check.proofs.standings.Standings.shows_live.Goals as goal

pub returns-in-Wrong-clause-shows : goal.returns-in-Wrong-clause-shows
returns-in-Wrong-clause-shows c = λ shows.
    wrong-of _ _ _ _ _ _ c.in_ok-shown.shown c.in-Wrong.is c.in_ok-shown.ensures.shows
    (shows_known c.args.elements.now c.requires.numbers c.show.new.self c.in_ok-shown.ensures.notes.fits
    c.args.w.now (IsView c.args.recording.now c.args.e) shows)

pub returns-then-has_what_it_must-clause-shows : goal.returns-then-has_what_it_must-clause-shows
returns-then-has_what_it_must-clause-shows c =
    let noted =
    noted-of _ _ _ _ _ _ c.in_ok-shown.shown c.in_default.not-Wrong c.in_ok-shown.ensures.shows in
    showing-of _ _ _ _ _ _ _ c.in_ok-shown.shown c.in_default.not-Wrong c.in_ok-shown.ensures.shows
    (shows_live c.args.elements.now c.requires.numbers c.show.new.self c.in_ok-shown.ensures.notes.fits
    c.args.w.now (IsView c.args.recording.now c.args.e) noted.just
    (c.has_what_it_must.ensures.0 c.if-has_what_it_must.true))

pub returns-else-has_what_it_must-clause-shows : goal.returns-else-has_what_it_must-clause-shows
returns-else-has_what_it_must-clause-shows c = λ shows.
    let noted =
    noted-of _ _ _ _ _ _ c.in_ok-shown.shown c.in_default.not-Wrong c.in_ok-shown.ensures.shows in
    false≢true (sym c.if-has_what_it_must.false
    ∙ c.has_what_it_must.ensures.1
    (has_what_it_must c.args.elements.now c.requires.numbers c.show.new.self
    c.in_ok-shown.ensures.notes.fits c.args.w.now (IsView c.args.recording.now c.args.e) noted.just
    shows))
