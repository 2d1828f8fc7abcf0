use Rattle.std.proofs.Common.{subst}
use Rattle.std.specs.Prelude.{IfSome}
use Rattle.specification.specs.Responses.{Responses, responses_of}
use Rattle.order_graph.specs.Covers.{IsCoveredBy}
use Rattle.certificate.specs.ByRows.{AppendsRows}
use Rattle.verdict.specs.VerdictOf.{verdict_of}
use Rattle.certificate.proofs.ByRows.{is_text_with, is_text_without}
use Rattle.certificate.proofs.writing.text_in_turn.Goals as goal

pub returns-in_default : goal.returns-in_default
returns-in_default c =
    is_text_without c.args.recording.now (verdict_of c.args.verdict.now) c.in_ok-text.text.items
    c.replicas.ensures.legal c.requires.verdict c.in_default.ensures c.in_ok-text.ensures

pub returns : goal.returns
returns c =
    let maker = c.in_ok-maker.maker in
    let graph : Responses = c.in-Some-made.graph in
    let covered : IsCoveredBy (responses_of c.args.recording.now) graph =
    subst (λ made. IfSome made (IsCoveredBy (responses_of c.args.recording.now))) c.in-Some-made.is
    c.requires.made in
    let added =
    subst (λ (v : Responses). AppendsRows v c.in-Some.k v.elements c.in_ok-text.text.items
    c.push_rows.new.text.items) c.in_ok-maker.ensures.0
    (subst (λ n. AppendsRows maker.graph.now n maker.graph.now.elements c.in_ok-text.text.items
    c.push_rows.new.text.items) c.in_ok-maker.ensures.1 c.in_ok-push_rows.ensures) in
    is_text_with c.args.recording.now (verdict_of c.args.verdict.now) graph c.in-Some.k
    c.in_ok-text.text.items c.push_rows.new.text.items
    c.in-Some.ensures covered c.in_ok-text.ensures added
