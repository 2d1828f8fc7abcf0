use Rattle.std.proofs.Common.{subst}
use Rattle.cert_check.specs.AnswerOf.{IsAnswer}
use Rattle.domepeeler.proofs.Lines.{line-end, reads-yes}
use Rattle.domepeeler.proofs.answer_end.Goals as goal

pub returns-in-Yes : goal.returns-in-Yes
returns-in-Yes c =
    line-end c.args.trace.now c.args.cert.now c.args.room.now c.line_end_of.new.room c.line_end_of.result
    c.args.answer.now c.requires
    (reads-yes c.args.trace.now c.args.cert.now _
    (subst (IsAnswer c.args.trace.now c.args.cert.now) c.in-Yes.is c.requires)) c.line_end_of.ensures
