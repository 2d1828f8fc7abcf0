use Rattle.certificate_text.proofs.OutlineTexts.{outline-back}
use Rattle.certificate_text.proofs.outline.Outline.read.Goals as goal

pub returns-clause-spelled : goal.returns-clause-spelled
returns-clause-spelled c =
    outline-back c.args.bytes.now c.outline_of.result c.outline_of.ensures.ok c.outline_of.ensures.fault
    c.outline_of.ensures.memory
