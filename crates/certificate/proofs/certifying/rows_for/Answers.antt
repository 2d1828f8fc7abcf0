use Rattle.std.proofs.Common.{List, sym, subst}
use Rattle.std.proofs.lemmas.Result.{IfOk-weaker}
use Rattle.specification.specs.ExactRows.{IsCertificateOf}
use Rattle.specification.specs.LayerRule.{Row}
use Rattle.specification.specs.Responses.{responses_of}
use Rattle.specification.specs.Verdict.{Verdict}
use Rattle.specification.specs.Versions.{two}
use Rattle.certificate.specs.ByRows.{certificate_with}
use Rattle.verdict.specs.VerdictOf.{verdict_of}
use Rattle.certificate.proofs.ByRows.{with_exact_rows, without_rows}
use Rattle.certificate.proofs.CoveredRows.{covered-rows}
use Rattle.certificate.proofs.certifying.rows_for.Goals as goal

pub returns-in_default : goal.returns-in_default
returns-in_default c =
    let h = c.args.recording.now in
    let v : Verdict = verdict_of c.args.verdict.now in
    subst (λ (rows : List Row). IsCertificateOf two h v (certificate_with rows v)) (sym c.new.ensures.items)
    (without_rows h v c.replicas.ensures.legal c.requires c.in_default.ensures)

pub returns : goal.returns
returns c =
    let h = c.args.recording.now in
    let v : Verdict = verdict_of c.args.verdict.now in
    IfOk-weaker c.rows_of_layers.result _ _
    (λ rows are. with_exact_rows h v c.in-Some.k rows.items c.in-Some.ensures
    (covered-rows (responses_of h) c.in_ok-graph.graph c.in_ok-graph.ensures c.in-Some.k rows.items are))
    c.rows_of_layers.ensures
