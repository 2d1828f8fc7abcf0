use Rattle.std.proofs.Common.{refl, inl, inr}
use Rattle.certificate_text.proofs.OutlineTexts.{empty-is, some-byte}
use Rattle.certificate_text.proofs.first_lines.line_first.Goals as goal

pub returns-then-is_empty-clause-cause : goal.returns-then-is_empty-clause-cause
returns-then-is_empty-clause-cause c =
    inl (refl, empty-is c.args.text.now c.is_empty.result c.is_empty.ensures c.if-is_empty.true)

pub returns-else-is_empty-clause-cause : goal.returns-else-is_empty-clause-cause
returns-else-is_empty-clause-cause c =
    inr (
      refl,
      some-byte c.args.text.now c.is_empty.result c.is_empty.ensures c.if-is_empty.false,
      c.in-None.ensures,
    )
