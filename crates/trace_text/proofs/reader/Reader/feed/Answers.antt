use Rattle.std.proofs.Common.{◌++◌}
use Rattle.std.proofs.lemmas.Result.{IfErr-weaker, on_ok_weaker}
use Rattle.trace_text.proofs.FedText.{fault-of-all, none-faulty-in, place-of-fault}
use Rattle.trace_text.proofs.reader.Reader.feed.Goals as goal

pub returns-clause-right : goal.returns-clause-right
returns-clause-right c =
    on_ok_weaker c.go_on.result
    (λ open_at text fed line cause. none-faulty-in c.go_on.new.self
    (text ++ c.args.piece.now) line cause open_at.1 (c.go_on.ensures.fed text fed))
    c.go_on.ensures.ok

pub returns-clause-fault : goal.returns-clause-fault
returns-clause-fault c =
    IfErr-weaker c.go_on.result _ _
    (λ fault is text more fed. fault-of-all c.go_on.new.self (text ++ c.args.piece.now) more fault is
    (c.go_on.ensures.fed text fed))
    c.go_on.ensures.err

pub returns-clause-place : goal.returns-clause-place
returns-clause-place c =
    IfErr-weaker c.go_on.result _ _
    (λ fault is text fed. place-of-fault c.go_on.new.self (text ++ c.args.piece.now) fault is
    (c.go_on.ensures.fed text fed))
    c.go_on.ensures.err
