use Rattle.std.proofs.Common.{◌≡◌, ◌<◌, ◌≤◌, ◌^◌, ◌++◌, ◌∷◌, [], length, map, refl, arith, length-append}
use Rattle.std.proofs.lemmas.Grind.{common_steps}
use Rattle.std.proofs.lemmas.List.Elements.{All-nil, All-push}
use Rattle.specification.specs.Lines.{text_of}
use Rattle.specification.specs.CertificateText.{IsRow, row_line}
use Rattle.certificate_text.proofs.FirstFaults.{nothing-left}
use Rattle.certificate_text.proofs.OutlineFaults.{row-fault}
use Rattle.certificate_text.proofs.OutlineTexts.{one-more}
use Rattle.certificate_text.proofs.outline.check_some_rows.Goals as goal

pub loop-rest-init : goal.loop-rest-init
loop-rest-init c = record { rows = ([], omega arith, All-nil (IsRow c.args.k), refl); small = omega arith }

pub loop-rest-preserved : goal.loop-rest-preserved
loop-rest-preserved c =
    let so_far = c.loop-rest.invariant.rows in
    let next = c.in-Ok.ensures.ok in record {
      rows = (
        so_far.0 ++ next.0 ∷ [],
        omega (arith, so_far.1, length-append so_far.0 (next.0 ∷ [])),
        All-push (IsRow c.args.k) so_far.0 next.0 so_far.2 next.1,
        one-more row_line so_far.0 next.0 c.args.text.now c.loop-rest.rest.now _ so_far.3 next.2,
      );
      small = omega (arith, c.loop-rest.invariant.small, c.in-Ok.ensures.shorter);
    }

pub returns-in-Err-clause-fault : goal.returns-in-Err-clause-fault
returns-in-Err-clause-fault c = λ version steps many each.
    let so_far = c.loop-rest.invariant.rows in
    let high : c.args.k < 2 ^ 32 = omega arith in
    let some : 1 ≤ length c.loop-rest.rest.now = grind (arith, common_steps) in
    row-fault version c.args.k steps so_far.0 c.args.text.now c.loop-rest.rest.now c.loop-rest.line
    c.in-Err.cause c.requires high many each so_far.2 so_far.1 some so_far.3 c.in-Err.ensures.cause

pub returns-clause-ok : goal.returns-clause-ok
returns-clause-ok c =
    let none : length c.loop-rest.rest.now ≡ 0 = grind (arith, common_steps) in
    let all = c.loop-rest.invariant.rows in (
      all.0,
      all.2,
      nothing-left c.args.text.now (text_of (map row_line all.0)) c.loop-rest.rest.now all.3 none,
    )
