use Rattle.finder_cli.proofs.Done.{ran-on}
use Rattle.finder_cli.specs.Engines.{RunsAs}
use Rattle.finder_cli.proofs.program.on_file.Goals as goal

pub returns : goal.returns
returns g c =
    let opening = c.in-Some.ensures in
    ran-on (RunsAs c.args.engine) (g.N.World.text c.args.world.now) c.as_str.result.now
    c.args.file
    (g.N.World.deeds c.args.world.now) (g.N.World.deeds c.open.new.self) (g.N.World.deeds c.close.new.self)
    c.in-Some.source c.go-ran.new.source c.args.sink.now c.go-ran.new.sink c.go-ran.result
    c.answer_on.result
    c.as_str.ensures opening.fresh c.go-ran.ensures c.answer_on.ensures opening.done c.close.ensures.done
