use Rattle.std.proofs.Common.{◌≡◌, [], refl, arith}
use Rattle.std.proofs.lemmas.List.Elements.{All-nil}
use Rattle.std.proofs.lemmas.Result.{IfOk-weaker}
use Rattle.specification.specs.CertificateText.{IsRow}
use Rattle.certificate_text.proofs.OutlineFaults.{two-fault}
use Rattle.certificate_text.proofs.outline.check_rows.Goals as goal

pub returns-then-k-gt2-clause-ok : goal.returns-then-k-gt2-clause-ok
returns-then-k-gt2-clause-ok c =
    IfOk-weaker c.check_some_rows.result _ _ (λ _ made. (
      made.0,
      (λ two. absurd (omega (arith, two, c.if-k-gt2.true))),
      made.1,
      made.2,
    )) c.check_some_rows.ensures.ok

pub returns-in-Ok-clause-ok : goal.returns-in-Ok-clause-ok
returns-in-Ok-clause-ok c = ([], (λ _. refl), All-nil (IsRow c.args.k), c.in-Ok.ensures.ok)

pub returns-in-Err-clause-fault : goal.returns-in-Err-clause-fault
returns-in-Err-clause-fault c =
    let two : c.args.k ≡ 2 = omega (arith, c.requires, c.if-k-gt2.false) in
    λ version steps many each. two-fault version c.args.k steps c.args.text.now c.in-Err.cause two many each
    c.in-Err.ensures.some c.in-Err.ensures.cause
