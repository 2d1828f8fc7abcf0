-- The least order of responses that cover the recording's is that of the recording's.
use Rattle.specification.specs.Responses.{responses_of}
use Rattle.order_graph.proofs.Covers.{covered-least_order}
use Rattle.verdict.proofs.judging.accepted.Goals as goal

pub returns-clause-verdict : goal.returns-clause-verdict
returns-clause-verdict c = (
  c.requires.sound,
  covered-least_order (responses_of c.args.recording.now) c.args.graph.now c.requires.covered c.args.order
      c.requires.least,
)
