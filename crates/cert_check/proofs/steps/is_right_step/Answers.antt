-- The step joins the next one and is shown, or it is not right.
use Rattle.std.proofs.Common.{◌∙◌, sym}
use Rattle.std.proofs.lemmas.Slice.Eq.{slice_eq-Decides}
use Rattle.std.proofs.lemmas.Bool.Decides.{Decides-eqb}
use Rattle.std.proofs.lemmas.Bool.{false≢true}
use Rattle.cert_check.proofs.StepsRight.{right_step, right_joins, right_shows}
use Rattle.cert_check.proofs.steps.is_right_step.Goals as goal

pub returns-then-eq : goal.returns-then-eq
returns-then-eq c = λ steps i after within at there begins.
    let same = (slice_eq-Decides Decides-eqb _ _ _ c.eq.ensures).0 c.if-eq.true in (
      λ t. right_step c.args.recording.now c.requires.legal steps i _ after within at there
          (same ∙ sym begins) (c.shows.ensures.0 t),
      λ right. c.shows.ensures.1
          (right_shows c.args.recording.now c.requires.legal steps i _ after within at there right),
    )

pub returns-else-eq : goal.returns-else-eq
returns-else-eq c = λ steps i after within at there begins. (
  λ t. absurd (false≢true (sym c.if-eq.false ∙ t)),
  λ right.
      let joins = right_joins c.args.recording.now c.requires.legal steps i _ after within at there right in
      absurd (false≢true (sym c.if-eq.false
      ∙ (slice_eq-Decides Decides-eqb _ _ _ c.eq.ensures).1 (joins ∙ begins))),
)
