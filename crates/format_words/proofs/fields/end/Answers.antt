use Rattle.format_words.proofs.FirstWord.{some-word}
use Rattle.format_words.proofs.fields.end.Goals as goal
use Rattle.std.proofs.Common.{◌<◌, length, arith}
use Rattle.std.proofs.lemmas.Grind.{common_steps}

pub returns-else-is_empty : goal.returns-else-is_empty
returns-else-is_empty c =
    let some : 0 < length c.args.rest.now = Prim.grind (arith, common_steps, c.if-is_empty.ensures) in
    some-word c.args.rest.now some
