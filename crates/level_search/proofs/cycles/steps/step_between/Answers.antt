use Rattle.std.proofs.Common.{sym, ◌∙◌}
use Rattle.specification.specs.Conflict.{Step}
use Rattle.list_search.proofs.Joining.{before-shown}
use Rattle.level_search.proofs.StepsRound.{no_name, step_is_between}
use Rattle.level_search.proofs.cycles.steps.step_between.Goals as goal

pub unreachable-requires : goal.unreachable-requires
unreachable-requires c =
    (no_name c.args.graph.now c.requires.proper c.args.a c.args.b c.requires.before).0
    (sym c.name.ensures ∙ c.in_default.is)

pub unreachable-requires-in_default-name : goal.unreachable-requires-in_default-name
unreachable-requires-in_default-name c =
    (no_name c.args.graph.now c.requires.proper c.args.a c.args.b c.requires.before).1
    (sym c.name-2.ensures ∙ c.in_default-name.is)

pub unreachable-requires-in_default-before : goal.unreachable-requires-in_default-before
unreachable-requires-in_default-before c =
    let shown = before-shown c.args.graph.now c.requires.proper c.args.a c.args.b c.requires.before in
    c.in_default-before.ensures shown.0 shown.1

pub returns : goal.returns
returns c =
    let step : Step =
    record { from = c.in-Some.from; to = c.in-Some-name.to; shown = c.in-Some-before.shown } in
    step_is_between c.args.graph.now c.requires.proper c.args.a c.args.b step
    (sym c.name.ensures ∙ c.in-Some.is) (sym c.name-2.ensures ∙ c.in-Some-name.is) c.in-Some-before.ensures
