-- Contents are right where the response shows what is live after what e sees.
use Rattle.std.proofs.Common.{refl, sym, subst}
use Rattle.contents_check.specs.Shown.{ShowJust}
use Rattle.contents_check.specs.Standings.{IsSeenBy}
use Rattle.contents_check.proofs.Few.{few-elements}
use Rattle.contents_check.proofs.Noting.{just_kept}
use Rattle.contents_check.proofs.SeenBy.{seen_from}
use Rattle.contents_check.proofs.Showing.{showing-iff}
use Rattle.contents_check.proofs.Showings.{if_ok-three, shown-as}
use Rattle.contents_check.proofs.walk.Walk.show.Goals as goal

pub shows_live-requires-clause-few : goal.shows_live-requires-clause-few
shows_live-requires-clause-few c =
    few-elements c.args.recording.now c.args.elements.now c.requires.judge.legal c.requires.judge.elements_are

pub shows_live-requires-clause-shown : goal.shows_live-requires-clause-shown
shows_live-requires-clause-shown c =
    subst (ShowJust c.args.elements.now c.advance.new.self.list.items) (sym c.last_response.ensures)
    (just_kept c.args.elements.now c.args.self.now.standings.list.items c.advance.new.self.list.items _
    c.advance.ensures.shown c.requires.walk.shown)

pub returns : goal.returns
returns c =
    let h = c.args.recording.now in
    let legal = c.requires.judge.legal in
    let elements = c.args.elements.now in
    let table = c.args.sight.now in
    let e = c.args.e in
    let new = c.shows_live.new.self in
    if_ok-three _ _ _ _ c.shows_live.result
    (λ shown counts go_on shows.
    let seen = subst (IsSeenBy table e) (sym counts) c.advance.ensures.seen in
    let behind = go_on h c.advance.ensures.behind in
    let parts =
    showing-iff h legal elements c.requires.judge.elements_are table c.requires.judge.sight e new behind
    seen c.args.w.now c.requires.response in
    record {
      behind = behind;
      earlier = seen_from h legal table c.requires.judge.sight e c.requires.operation new.counts seen;
      shows = shown-as _ _ parts.0 parts.1 elements c.last_response.result.now _ c.args.w.now _
          c.last_response.ensures c.requires.response new c.shows_live.new.next.items shown shows;
      covering = refl;
      none = c.requires.walk.none;
    })
    c.shows_live.ensures.counts c.shows_live.ensures.behind c.shows_live.ensures.shows
