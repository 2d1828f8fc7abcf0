use Rattle.std.proofs.Common.{ap, ◌∙◌, is_none}
use Rattle.events.proofs.NoFaults.{tells-names, turned}
use Rattle.events.proofs.name.is_name.Goals as goal

pub returns-clause-name : goal.returns-clause-name
returns-clause-name c =
    tells-names c.args.bytes.now c.is_none.result (turned c.is_none.result _ c.is_none.ensures
    ∙ ap is_none c.name_fault_of.ensures.value)
