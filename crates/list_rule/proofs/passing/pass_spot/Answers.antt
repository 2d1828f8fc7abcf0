use Rattle.std.proofs.Common.{◌+◌, ◌-◌, ◌<◌, ℕ, inl, inr, List, length, arith}
use Rattle.std.proofs.lemmas.Bool.{cases_Bool}
use Rattle.std.proofs.lemmas.List.{get_or_default}
use Rattle.element_numbers.specs.Cuts.{rows_of}
use Rattle.list_rule.specs.Judging.{Asked, IsMark, asked}
use Rattle.list_rule.specs.declared.spot.Spot.{Spot}
use Rattle.list_rule.specs.declared.marks.Mark.{Mark}
use Rattle.list_rule.proofs.Standing.{known_at, row_within}
use Rattle.list_rule.proofs.Marking.{IsMarkOf, fits_after, gradual_to_end, mark_is, right_behind, seen, swept}
use Rattle.list_rule.proofs.Ruling.{depth_most, no_deeper, not_before_source}
use Rattle.list_rule.proofs.passing.pass_spot.Goals as goal
use Rattle.list_rule.proofs.passing.pass_spot.Goals.{then-bound-most-via-then-bound-most}
use Rattle.list_rule.proofs.passing.pass_spot.Goals.{then-bound-most-via-else-bound-most+then-mark-behind}

pub returns-then-behind-mark-clause-rule : goal.returns-then-behind-mark-clause-rule
returns-then-behind-mark-clause-rule c = λ x source spots stands counts is low judging rule.
    let lists = rows_of c.args.places.now in
    let a : Asked = asked lists c.args.depths.now c.args.most c.args.first source in
    let q : Spot = c.args.spot in
    let m : Mark = c.mark_of-mark.result in
    let of : IsMarkOf c.args.state.now q.list m = record {
      row = c.mark_of-mark.ensures.row;
      written = c.mark_of-mark.ensures.written;
      unwritten = c.mark_of-mark.ensures.unwritten;
    } in
    let mark : IsMark a c.args.bound q.list m =
    mark_is a spots c.args.bound c.args.state.now q.list m c.requires.short of judging in
    let high : q.place + 1 < m.behind_source = omega arith in
    absurd (not_before_source lists c.args.depths.now c.args.most c.args.first source q.list q.place
    (m.behind_source - 1) x c.requires.within counts low (omega (arith, high)) stands
    (mark.found (m.behind_source - 1) (omega (arith, high))) rule)

pub returns-then-bound-most-clause-right : goal.returns-then-bound-most-clause-right
returns-then-bound-most-clause-right c = λ t n source spots are listed judging.
    let lists = rows_of c.args.places.now in
    let a : Asked = asked lists c.args.depths.now c.args.most c.args.first source in
    let q : Spot = c.args.spot in
    let m : Mark = c.mark_of-mark.result in
    let of : IsMarkOf c.args.state.now q.list m = record {
      row = c.mark_of-mark.ensures.row;
      written = c.mark_of-mark.ensures.written;
      unwritten = c.mark_of-mark.ensures.unwritten;
    } in
    let mark : IsMark a c.args.bound q.list m =
    mark_is a spots c.args.bound c.args.state.now q.list m c.requires.short of judging in
    right_behind a c.args.bound q m
    (λ s stands. seen n a spots c.args.bound c.args.state.now q m listed.0 s are listed.1 of judging stands)
    (omega arith)
    (λ j y later stands counts. elim c.then-bound-most.branch [
      | then-bound-most-via-then-bound-most w ↦
          (let most = depth_most c.args.depths.now c.args.most y c.requires.most in
          omega (arith, most, w.if-bound-most.true))
      | then-bound-most-via-else-bound-most+then-mark-behind w ↦
          mark.compared j y (omega (arith, w.if-mark-behind.true, later)) stands counts
    ])

pub returns-clause-fits : goal.returns-clause-fits
returns-clause-fits c =
    let lists = rows_of c.args.places.now in
    let q : Spot = c.args.spot in
    let m : Mark = record {
      row = c.mark_of-mark.result.row;
      end = q.place + 1;
      behind_source = c.mark_of-mark.result.behind_source;
    } in
    fits_after lists c.args.state.now c.sweep.new.state q.list m c.requires.fits c.mark_of-mark.ensures.row
    c.sweep.ensures.row (row_within lists q.list q.place c.requires.inside)
    (elim (cases_Bool c.sweep.result) [
      | inl t ↦ inl (c.sweep.ensures.marks t)
      | inr f ↦ inr (c.sweep.ensures.kept f)
    ])

pub returns-clause-judging : goal.returns-clause-judging
returns-clause-judging c = λ t source spots judging.
    let lists = rows_of c.args.places.now in
    let depths : List ℕ = c.args.depths.now in
    let a : Asked = asked lists depths c.args.most c.args.first source in
    let q : Spot = c.args.spot in
    let m : Mark = c.mark_of-mark.result in
    let of : IsMarkOf c.args.state.now q.list m = record {
      row = c.mark_of-mark.ensures.row;
      written = c.mark_of-mark.ensures.written;
      unwritten = c.mark_of-mark.ensures.unwritten;
    } in
    let mark : IsMark a c.args.bound q.list m =
    mark_is a spots c.args.bound c.args.state.now q.list m c.requires.short of judging in
    swept a spots c.args.bound q m c.args.state.now c.sweep.new.state judging of
    (row_within lists q.list q.place c.requires.inside) c.sweep.ensures.row (c.sweep.ensures.marks t) mark
    (gradual_to_end a c.args.bound q m mark
    (λ j y later low stands counts.
    (let le = c.sweep.ensures.read.0 t j y later low stands counts in
    let e = get_or_default depths y c.args.most 0
    (known_at lists (length depths) q.list j y c.requires.within stands) in
    omega (arith, le, e))))

pub returns-clause-right : goal.returns-clause-right
returns-clause-right c = λ t n source spots are listed judging.
    let lists = rows_of c.args.places.now in
    let depths : List ℕ = c.args.depths.now in
    let a : Asked = asked lists depths c.args.most c.args.first source in
    let q : Spot = c.args.spot in
    let m : Mark = c.mark_of-mark.result in
    let of : IsMarkOf c.args.state.now q.list m = record {
      row = c.mark_of-mark.ensures.row;
      written = c.mark_of-mark.ensures.written;
      unwritten = c.mark_of-mark.ensures.unwritten;
    } in
    let mark : IsMark a c.args.bound q.list m =
    mark_is a spots c.args.bound c.args.state.now q.list m c.requires.short of judging in
    right_behind a c.args.bound q m
    (λ s stands. seen n a spots c.args.bound c.args.state.now q m listed.0 s are listed.1 of judging stands)
    (omega arith)
    (gradual_to_end a c.args.bound q m mark
    (λ j y later low stands counts.
    (let le = c.sweep.ensures.read.0 t j y later low stands counts in
    let e = get_or_default depths y c.args.most 0
    (known_at lists (length depths) q.list j y c.requires.within stands) in
    omega (arith, le, e))))

pub returns-clause-rule : goal.returns-clause-rule
returns-clause-rule c = λ x source spots stands counts is low judging rule.
    let lists = rows_of c.args.places.now in
    let q : Spot = c.args.spot in
    c.sweep.ensures.read.1
    (λ j y later before there from.
    no_deeper lists c.args.depths.now c.args.most c.args.first source q.list q.place j x y c.args.bound
    c.requires.within counts from is later stands there rule)
