use Rattle.std.proofs.Common.{ap, sym, ◌∙◌}
use Rattle.trace_text.proofs.FedText.{fed-after-fault}
use Rattle.trace_text.proofs.reader.Reader.go_on.Goals as goal

pub returns-in-Some-clause-fed : goal.returns-in-Some-clause-fed
returns-in-Some-clause-fed c = λ text fed.
    fed-after-fault c.args.self.now text c.args.piece.now c.in-Some.fault
    (sym (ap (λ r. r.fault) c.self.view_is) ∙ c.in-Some.is) fed
