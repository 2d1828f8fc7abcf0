use Rattle.byte_streams.proofs.Calls.{is-false}
use Rattle.engines.proofs.Failures.{ended-in-vain}
use Rattle.engines.proofs.output.whole_text.Goals as goal

pub returns-in-Err-Read-clause-failed_read : goal.returns-in-Err-Read-clause-failed_read
returns-in-Err-Read-clause-failed_read g c = λ _.
    let whole = c.in-Err-Read.ensures in
    record {
      closes = whole.read c.in-Err-Read.field-0-is;
      ended = is-false _ (λ done. (whole.ended done).0);
      vain = λ ready. ended-in-vain c.args.source.now c.whole.new.self c.in-Err-Read.field-0 c.in-Err-Read.field-0-is (whole.made ready);
      closed = λ shut. (whole.closed shut).1;
    }
