use Rattle.engines.proofs.Failures.{fails-to-write, stays-shut, written-first}
use Rattle.engines.proofs.output.write_output.Goals as goal

pub returns-in-Err-clause-failed_write : goal.returns-in-Err-clause-failed_write
returns-in-Err-clause-failed_write g c =
    let wrote = c.in-Err.ensures in
    fails-to-write c.args.sink.now c.args.sink.now c.write_whole.new.self _ (written-first c.args.sink.now)
    wrote.err.1 wrote.made (λ shut. stays-shut _ _ _ (wrote.closed shut) wrote.nothing)

pub returns-in-Err-clause-closed_sink : goal.returns-in-Err-clause-closed_sink
returns-in-Err-clause-closed_sink g c = λ shut.
    stays-shut _ _ _ (c.in-Err.ensures.closed shut) c.in-Err.ensures.nothing

pub returns-in-Ok-clause-closed_sink : goal.returns-in-Ok-clause-closed_sink
returns-in-Ok-clause-closed_sink g c = λ shut.
    stays-shut _ _ _ (c.in-Ok.ensures.closed shut) c.in-Ok.ensures.nothing
