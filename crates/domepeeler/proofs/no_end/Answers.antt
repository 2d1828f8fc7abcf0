use Rattle.std.proofs.Common.{inl, refl, subst}
use Rattle.cert_check.specs.AnswerOf.{IsReason}
use Rattle.cert_check.specs.declared.answer.Answer.TheVariants.{No}
use Rattle.cert_check.specs.declared.answer.Reason.TheVariants.{CertText, Trace}
use Rattle.engines.specs.Lines.{answer_line}
use Rattle.engines.specs.declared.status.Status.TheVariants.{Bad}
use Rattle.domepeeler.proofs.Lines.{line-end, reads}
use Rattle.domepeeler.proofs.no_end.Goals as goal

pub returns-in-Trace : goal.returns-in-Trace
returns-in-Trace c =
    inl (
      answer_line (No Trace),
      Bad,
      (No Trace, subst (IsReason c.args.trace.now c.args.cert.now) c.in-Trace.is c.requires, refl, refl),
      c.put.ensures,
    )

pub returns-in-CertText : goal.returns-in-CertText
returns-in-CertText c =
    inl (
      answer_line (No CertText),
      Bad,
      (No CertText, subst (IsReason c.args.trace.now c.args.cert.now) c.in-CertText.is c.requires, refl, refl),
      c.put-in-CertText.ensures,
    )

pub returns-in_default : goal.returns-in_default
returns-in_default c =
    line-end c.args.trace.now c.args.cert.now c.args.room.now c.line_end_of.new.room c.line_end_of.result
    (No c.args.why.now) c.requires
    (reads c.args.trace.now c.args.cert.now c.args.why.now c.requires c.in_default.not-Trace
    c.in_default.not-CertText) c.line_end_of.ensures
