use Rattle.std.proofs.Common.{length}
use Rattle.trace_text.proofs.tests.by_words.ByWords.add.Given as goal

abbrev pub decreases-loop-part : goal.decreases-loop-part
decreases-loop-part l = length l.rest
