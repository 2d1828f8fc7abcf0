use Rattle.std.proofs.Common.{◌∷◌, [], Err}
use Rattle.byte_streams.proofs.Calls.{Makes-trans}
use Rattle.finder_cli.specs.Deeds.{complained}
use Rattle.finder_cli.proofs.program.finder.Goals as goal

pub returns-in-Err : goal.returns-in-Err
returns-in-Err g c =
    let deeds = g.N.World.deeds in
    let did = c.in-Err.ensures in (
      did.0,
      did.1,
      Err c.in-Err.fault,
      did.2,
      did.3,
      Makes-trans (deeds c.args.world.now) (deeds c.answer.new.world) (deeds c.complain.new.self) did.1
          (complained c.in-Err.fault ∷ []) did.4 c.complain.ensures.done,
      c.number-in-Err.ensures,
    )
