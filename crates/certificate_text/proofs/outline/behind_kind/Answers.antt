use Rattle.std.proofs.Common.{refl, subst, sym}
use Rattle.certificate_text.specs.Outlines.{NamesFault, SaysAll}
use Rattle.certificate_text.specs.declared.kind.Kind.{Kind}
use Rattle.certificate_text.specs.declared.outline.Outline.{Outline}
use Rattle.certificate_text.specs.declared.outline.Outline.TheVariants as outline
use Rattle.certificate_text.specs.declared.kind.Kind.TheVariants as kind
use Rattle.certificate_text.proofs.OutlineTexts.{same-ok, same-err}
use Rattle.certificate_text.proofs.outline.behind_kind.Goals as goal

pub returns-in-Ok-clause-ok : goal.returns-in-Ok-clause-ok
returns-in-Ok-clause-ok c =
    let says : Outline = outline.Doubled c.in-Doubled.first c.in-Doubled.again in
    c.in-Ok.ensures.ok c.args.kind says c.requires
    (subst (λ (k : Kind). SaysAll k says) (sym c.in-Doubled.is) refl)

pub returns-in-Err-clause-fault : goal.returns-in-Err-clause-fault
returns-in-Err-clause-fault c =
    c.in-Err.ensures.fault c.args.kind c.requires (subst NamesFault (sym c.in-Doubled.is) tt)

pub returns-in-Ok-check_end-clause-ok : goal.returns-in-Ok-check_end-clause-ok
returns-in-Ok-check_end-clause-ok c =
    let says : Outline = outline.Contents c.in-Contents.at in
    c.in-Ok-check_end.ensures.ok c.args.kind says c.requires
    (subst (λ (k : Kind). SaysAll k says) (sym c.in-Contents.is) refl)

pub returns-in-Err-check_end-clause-fault : goal.returns-in-Err-check_end-clause-fault
returns-in-Err-check_end-clause-fault c =
    c.in-Err-check_end.ensures.fault c.args.kind c.requires (subst NamesFault (sym c.in-Contents.is) tt)

pub returns-in-Ok-check_end-2-clause-ok : goal.returns-in-Ok-check_end-2-clause-ok
returns-in-Ok-check_end-2-clause-ok c =
    let says : Outline = outline.Position c.in-Position.at in
    c.in-Ok-check_end-2.ensures.ok c.args.kind says c.requires
    (subst (λ (k : Kind). SaysAll k says) (sym c.in-Position.is) refl)

pub returns-in-Err-check_end-2-clause-fault : goal.returns-in-Err-check_end-2-clause-fault
returns-in-Err-check_end-2-clause-fault c =
    c.in-Err-check_end-2.ensures.fault c.args.kind c.requires (subst NamesFault (sym c.in-Position.is) tt)

pub returns-in-Accepted-clause-ok : goal.returns-in-Accepted-clause-ok
returns-in-Accepted-clause-ok c =
    same-ok c.args.kind kind.Accepted c.args.text.now c.order.result c.in-Accepted.is c.order.ensures.ok

pub returns-in-Accepted-clause-fault : goal.returns-in-Accepted-clause-fault
returns-in-Accepted-clause-fault c =
    same-err c.args.kind kind.Accepted c.args.text.now c.order.result c.in-Accepted.is c.order.ensures.fault

pub returns-in-Refused-clause-ok : goal.returns-in-Refused-clause-ok
returns-in-Refused-clause-ok c =
    same-ok c.args.kind (kind.Refused c.in-Refused.k) c.args.text.now c.cycle.result c.in-Refused.is
    c.cycle.ensures.ok

pub returns-in-Refused-clause-fault : goal.returns-in-Refused-clause-fault
returns-in-Refused-clause-fault c =
    same-err c.args.kind (kind.Refused c.in-Refused.k) c.args.text.now c.cycle.result c.in-Refused.is
    c.cycle.ensures.fault
