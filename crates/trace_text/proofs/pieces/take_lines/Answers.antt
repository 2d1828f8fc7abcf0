use Rattle.std.proofs.Common.{◌++◌, subst}
use Rattle.specification.specs.Lines.{text_of}
use Rattle.trace_text.specs.Fed.{IsAdded}
use Rattle.trace_text.specs.Progress.{good}
use Rattle.trace_text.proofs.GrowingText.{ends-anew}
use Rattle.trace_text.proofs.pieces.take_lines.Goals as goal

pub returns-clause-ok : goal.returns-clause-ok
returns-clause-ok c =
    let cut = c.in_ok-rest.ensures.ok in
    ends-anew (good c.read_lines.new.reading) c.add.new.self
    (text_of (good c.args.reading.now) ++ c.args.piece.now) c.in_ok-rest.rest.now cut.0
    (subst (λ old. IsAdded old c.in_ok-rest.rest.now c.add.new.self) c.requires c.add.ensures) cut.1
