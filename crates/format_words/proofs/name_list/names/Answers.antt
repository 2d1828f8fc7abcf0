use Rattle.std.proofs.Common.{◌≡◌, length, arith}
use Rattle.std.proofs.lemmas.Grind.{common_steps}
use Rattle.format_words.proofs.NamesRead.{no-names}
use Rattle.format_words.proofs.name_list.names.Goals as goal

pub returns-then-is_empty : goal.returns-then-is_empty
returns-then-is_empty c =
    let none : length c.args.rest.now ≡ 0 = grind (arith, common_steps) in
    no-names c.args.rest.now c.new.result.items none c.new.ensures.items
