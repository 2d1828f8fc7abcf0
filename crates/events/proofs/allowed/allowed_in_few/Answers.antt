-- The bytes stand in front of the spaces, the first of which does not pass.
use Rattle.std.proofs.Common.{refl}
use Rattle.events.specs.Names.{is_name_byte}
use Rattle.events.proofs.Prefixes.{padded-stops}
use Rattle.events.proofs.allowed.allowed_in_few.Goals as goal

pub returns : goal.returns
returns c =
    padded-stops is_name_byte c.args.bytes.now c.copy_from_slice.new.self c.not_allowed.result refl c.requires
    c.copy_from_slice.ensures.after c.not_allowed.ensures
