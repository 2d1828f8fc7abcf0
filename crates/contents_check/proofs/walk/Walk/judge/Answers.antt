-- The operation is right where its contents and its position are.
use Rattle.std.proofs.Common.{◌≡◌, ◌∙◌, ◌+◌, ◌-◌, ℕ, List, sym, ap, subst, arith}
use Rattle.events.specs.Names.{NameBytes}
use Rattle.events.specs.Operations.{response}
use Rattle.specification.specs.Elements.{numbers_in}
use Rattle.specification.specs.Faults.{HasRightContents}
use Rattle.element_numbers.specs.declared.covering.Covering.{Covering}
use Rattle.contents_check.specs.declared.standings.Standings.{Standings}
use Rattle.element_numbers.specs.Covering.{AreRowsOf}
use Rattle.contents_check.specs.Covering.{first_operations, AreKeptOf}
use Rattle.contents_check.specs.Known.{element_names}
use Rattle.contents_check.specs.Shown.{IsNoted, IsShowing, ShowJust}
use Rattle.contents_check.specs.Standings.{AreBehind, IsSeenFrom}
use Rattle.contents_check.specs.Walk.{response_before}
use Rattle.contents_check.proofs.walk.Walk.judge.Goals as goal
use Rattle.contents_check.proofs.walk.Walk.judge.Goals.{in-Part, in-More}

pub returns-then-has_right_position : goal.returns-then-has_right_position
returns-then-has_right_position c =
    let h = c.args.recording.now in
    let elements = c.args.elements.now in
    let r : ℕ = c.args.e.replica in
    let n : ℕ = c.args.e.n in
    let mid = c.show.new.self in
    let new = c.go_on.new.self in
    let s = c.in_ok-show.ensures in
    let g = c.in_ok-go_on.ensures in
    let w : List NameBytes = response h c.args.e in
    let Found =
    IsShowing (HasRightContents h c.args.e) elements (response_before h r n) w mid.standings
    mid.next.items in
    let found : HasRightContents h c.args.e × IsNoted elements w mid.standings mid.next.items =
    elim c.match-branch-2.branch [
      | in-Part x ↦ let is = subst Found x.in-Part.is s.shows in (is.0, is.1)
      | in-More x ↦ let is = subst Found x.in-More.is s.shows in (is.0, is.1)
    ] in
    let before : n + 1 - 1 ≡ n = omega arith in
    let names : w ≡ response_before h r (n + 1) =
    ap (λ (k : ℕ). response h (record { replica = r; n = k })) (sym before) in
    let all : List NameBytes = element_names elements in
    let next =
    g.kept all (subst (λ (v : Covering). AreKeptOf h (first_operations r (n - 1)) v.operations.items)
    (sym s.covering) c.requires.walk.kept)
    (subst (λ (v : Covering). AreRowsOf h all v.operations.items v.rows)
    (sym s.covering) c.requires.walk.rows) found.1.row_is in (
      record { contents = found.0; position = c.has_right_position.ensures.0 c.if-has_right_position.true },
      record {
        behind = subst (λ (v : Standings). AreBehind h elements v) (sym g.standings) s.behind;
        earlier =
            subst (λ (v : Standings). IsSeenFrom h c.args.sight.now r (n + 1) v.counts)
            (sym g.standings) s.earlier;
        shown = subst (λ (l : List NameBytes). ShowJust elements new.standings.list.items l) names
            (subst (λ (v : Standings). ShowJust elements v.list.items w) (sym g.standings) found.1.just);
        row = g.row ∙ found.1.row_is ∙ ap (numbers_in all) names;
        kept = subst (λ (k : ℕ). AreKeptOf h (first_operations r k) new.covering.operations.items)
            (sym before) next.0;
        rows = next.1;
        none = g.none ∙ s.none;
      },
    )
