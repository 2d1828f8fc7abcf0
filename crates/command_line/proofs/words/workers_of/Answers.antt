use Rattle.std.proofs.Common.{arith, sym}
use Rattle.command_line.proofs.Positives.{many-workers}
use Rattle.command_line.proofs.words.workers_of.Goals as goal

pub returns-then-n-gt-MOST_WORKERS : goal.returns-then-n-gt-MOST_WORKERS
returns-then-n-gt-MOST_WORKERS c =
    many-workers _ c.in-Some.word.now c.in-Some-number_of.n (sym c.in-Some.ensures)
    c.in-Some-number_of.ensures.0 (omega arith) c.if-n-gt-MOST_WORKERS.true
