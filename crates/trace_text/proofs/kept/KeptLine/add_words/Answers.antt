use Rattle.trace_text.proofs.KeptLines.{one-word-more, given-up-on}
use Rattle.trace_text.proofs.kept.KeptLine.add_words.Goals as goal

pub loop-part-preserved : goal.loop-part-preserved
loop-part-preserved c =
    let so_far = c.loop-part.invariant in
    one-word-more c.args.self.now c.loop-part.self c.add_word.new.self c.args.bytes.now so_far.0
    c.in-Some.part.now c.in-Some.behind.now c.loop-part.rest.now
    so_far.1 c.in-Some.ensures.1 so_far.2 c.in_ok-add_word.ensures

pub returns-then-is_given_up : goal.returns-then-is_given_up
returns-then-is_given_up c =
    let so_far = c.loop-part.invariant in
    given-up-on c.args.self.now c.loop-part.self c.add_word.new.self c.args.bytes.now so_far.0
    c.in-Some.part.now c.in-Some.behind.now c.loop-part.rest.now
    so_far.1 c.in-Some.ensures.1 so_far.2 c.in_ok-add_word.ensures
    (c.is_given_up.ensures c.if-is_given_up.true)
