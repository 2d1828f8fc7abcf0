use Rattle.certificate_text.proofs.OutlineFaults.{alone-fault}
use Rattle.certificate_text.proofs.OutlineTexts.{alone-ends}
use Rattle.certificate_text.proofs.outline.check_end.Goals as goal

pub returns-in-Ok-clause-ok : goal.returns-in-Ok-clause-ok
returns-in-Ok-clause-ok c kind outline good all =
    alone-ends kind outline c.args.text.now good all c.in-Ok.ensures.ok

pub returns-in-Err-clause-fault : goal.returns-in-Err-clause-fault
returns-in-Err-clause-fault c kind good fault =
    alone-fault kind c.args.text.now c.in-Err.cause good fault c.in-Err.ensures.some c.in-Err.ensures.cause
