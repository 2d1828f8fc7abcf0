use Rattle.std.proofs.Common.{◌≡◌, ◌∙◌, subst}
use Rattle.std.specs.Prelude.{IfSome}
use Rattle.specification.specs.Responses.{Responses, responses_of}
use Rattle.order_graph.specs.Covers.{IsCoveredBy}
use Rattle.certificate.specs.ByRows.{joined}
use Rattle.verdict.specs.VerdictOf.{verdict_of}
use Rattle.certificate.proofs.ByRows.{is_text_with, is_text_without}
use Rattle.certificate.proofs.RowLines.{joined_one}
use Rattle.certificate.proofs.writing.texts_by.Goals as goal

pub returns-in_default : goal.returns-in_default
returns-in_default g c =
    let one : joined c.push.new.self.items ≡ c.in_ok-head.head.items =
    joined_one c.new-texts.result.items c.push.new.self.items c.in_ok-head.head c.new-texts.ensures.items
    c.in_ok-push.ensures.items in
    is_text_without c.args.recording.now (verdict_of c.args.verdict.now) (joined c.push.new.self.items)
    c.replicas.ensures.legal c.requires.verdict c.in_default.ensures (one ∙ c.in_ok-head.ensures)

pub returns : goal.returns
returns g c =
    let one : joined c.push.new.self.items ≡ c.in_ok-head.head.items =
    joined_one c.new-texts.result.items c.push.new.self.items c.in_ok-head.head c.new-texts.ensures.items
    c.in_ok-push.ensures.items in
    let graph : Responses = c.in-Some-made.graph in
    let covered : IsCoveredBy (responses_of c.args.recording.now) graph =
    subst (λ made. IfSome made (IsCoveredBy (responses_of c.args.recording.now))) c.in-Some-made.is
    c.requires.made in
    is_text_with c.args.recording.now (verdict_of c.args.verdict.now) graph c.in-Some.k
    (joined c.push.new.self.items) (joined c.push_rows_by.new.texts.items)
    c.in-Some.ensures covered (one ∙ c.in_ok-head.ensures) c.in_ok-push_rows_by.ensures
