use Rattle.std.proofs.Common.{List, ◌∙◌}
use Rattle.events.specs.Names.{NameBytes}
use Rattle.format_words.proofs.NameList.{name-next}
use Rattle.format_words.proofs.verdicts.push_list.Goals as goal

pub loop-name-preserved : goal.loop-name-preserved
loop-name-preserved c =
    let names : List NameBytes = c.args.names.now in
    let name : NameBytes = c.name-item.result in
    c.in_ok-push_name.ensures
    ∙ name-next c.args.text.now.items c.loop-name.text.items names c.loop-name.name-index name
    c.loop-name.invariant c.loop-name-test.true c.name-item.is
