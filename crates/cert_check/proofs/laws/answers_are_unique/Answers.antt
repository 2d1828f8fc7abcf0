use Rattle.cert_check.proofs.OneAnswer.{one_answer}
use Rattle.cert_check.proofs.laws.answers_are_unique.Goals as goal

pub returns : goal.returns
returns c = one_answer
