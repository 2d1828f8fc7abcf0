use Rattle.format_words.proofs.NamesRead.{some-names}
use Rattle.format_words.proofs.name_list.stop_of.Goals as goal

pub returns-in-Ok : goal.returns-in-Ok
returns-in-Ok c = some-names c.args.rest.now c.requires c.in-Ok.ensures
