use Rattle.finder_cli.proofs.Done.{checked-on, missed-other}
use Rattle.finder_cli.proofs.program.check_files.Goals as goal

pub returns-in_default-open : goal.returns-in_default-open
returns-in_default-open g c =
    let deeds = g.N.World.deeds in
    missed-other (g.N.World.text c.args.world.now) (g.N.World.text c.open.new.self) c.as_str.result.now
    c.args.file c.as_str-2.result.now c.args.cert
    (deeds c.args.world.now) (deeds c.open.new.self) (deeds c.open-2.new.self) (deeds c.close.new.self)
    c.in-Some.trace c.args.sink.now
    c.as_str.ensures c.as_str-2.ensures c.in-Some.ensures.fresh c.in-Some.ensures.done
    c.in_default-open.ensures.done c.close.ensures.done

pub returns : goal.returns
returns g c =
    let deeds = g.N.World.deeds in
    checked-on (g.N.World.text c.args.world.now) (g.N.World.text c.open.new.self) c.as_str.result.now
    c.args.file c.as_str-2.result.now c.args.cert
    (deeds c.args.world.now) (deeds c.open.new.self) (deeds c.open-2.new.self) (deeds c.close-2.new.self)
    (deeds c.close-3.new.self)
    c.in-Some.trace c.check-ran.new.trace c.in-Some-open.other c.check-ran.new.cert c.args.sink.now
    c.check-ran.new.sink c.check-ran.result c.answer_on.result
    c.as_str.ensures c.as_str-2.ensures c.in-Some.ensures.stays c.in-Some.ensures.fresh
    c.in-Some-open.ensures.fresh c.check-ran.ensures c.answer_on.ensures
    c.in-Some.ensures.done c.in-Some-open.ensures.done c.close-2.ensures.done c.close-3.ensures.done
